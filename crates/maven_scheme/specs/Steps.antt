pub mod Nulls
pub mod Tokens
