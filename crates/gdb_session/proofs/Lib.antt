pub mod SetLemmas
pub mod FrontLemmas
pub mod StillLemmas
