pub mod AddedRows
pub mod Rounds
pub mod RowLemmas
pub mod TableLemmas
