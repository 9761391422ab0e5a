pub mod RunsSame
pub mod ShownRuns
pub mod FirstShown
pub mod HuntEnds
pub mod HuntsWhole
pub mod OwnRuns
