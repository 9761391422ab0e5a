pub mod AcceptedTells
pub mod Inside
