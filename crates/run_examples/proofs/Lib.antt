pub mod HandingOver
