pub mod Texts
pub mod Unique
