pub mod WaitLemmas
pub mod WaitsMore
pub mod RowsMore
pub mod WaitTexts
