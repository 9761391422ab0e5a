pub mod AnswerFrames
pub mod AskedCuts
pub mod OtherWays
