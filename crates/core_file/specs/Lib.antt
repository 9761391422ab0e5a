pub mod CoreFiles
