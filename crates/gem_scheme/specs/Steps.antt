pub mod Apart
pub mod Rows
pub mod Tokens
pub mod Written
