pub mod LoadTells
