pub mod Others
pub mod Going
pub mod Told
pub mod Recorded
pub mod Laws
