pub mod Leb128
