pub mod CoreLemmas
pub mod AnswerLemmas
pub mod SessionLemmas
pub mod WordLemmas
