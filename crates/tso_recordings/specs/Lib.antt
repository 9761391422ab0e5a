pub mod Recordings
pub mod RunLaws
pub mod Schedules
pub mod Follows
pub mod Logged
pub mod Tells
pub mod Plays
pub mod Replays
