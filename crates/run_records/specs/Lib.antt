pub mod Clerks
pub mod Recordings
pub mod Standing
pub mod WhatIsKnown
pub mod StandingAt
pub mod Exactness
pub mod Recorded
