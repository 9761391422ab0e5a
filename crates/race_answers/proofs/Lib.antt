pub mod NotedPcs
pub mod OnePc
pub mod SameSites
pub mod TableCounts
pub mod AllDecisions
pub mod MoreVisits
