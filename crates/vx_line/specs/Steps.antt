pub mod Joins
pub mod Merges
