pub mod FlatRuns
