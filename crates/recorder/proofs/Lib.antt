pub mod RecorderStart
pub mod RecorderTurn
pub mod RecordedEnd
