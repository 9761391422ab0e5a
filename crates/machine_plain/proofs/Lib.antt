pub mod Plains
pub mod PlainActs
pub mod ForgetfulSteps
pub mod SameMoves
pub mod Shows
