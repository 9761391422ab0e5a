pub mod FirstActs
