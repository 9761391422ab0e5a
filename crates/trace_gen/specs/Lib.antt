pub mod Assembly
pub mod Laws
pub mod Programs
