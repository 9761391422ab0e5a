mod BufferedMarks
mod BufferedRuns
mod CoreSets
mod Decisions
pub mod EndViews
mod PickCounts
pub mod PickedRuns
mod MarkCounts
mod FlatMarks
mod FlatEnds
mod PlainRuns
mod RunCourses
mod StartBounds
mod StartRuns
mod StepPlaces
