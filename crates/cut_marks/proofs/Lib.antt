pub mod FirstNamed
pub mod PutMarks
