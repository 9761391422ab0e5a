pub mod Orders
pub mod Plays
pub mod ReplayOrders
pub mod Loads
pub mod Deciding
pub mod Replays
pub mod BothLogs
