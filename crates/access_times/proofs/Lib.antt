mod FilledTimes
pub mod KeptReads
