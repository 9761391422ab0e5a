pub mod Firsts
pub mod Batches
pub mod Rounds
pub mod Tables
