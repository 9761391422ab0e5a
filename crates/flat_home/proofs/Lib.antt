pub mod Turning
pub mod Requests
pub mod Responses
pub mod Tells
