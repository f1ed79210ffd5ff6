pub mod Version
pub mod Tokens
pub mod Letters
pub mod Order
pub mod Spelling
pub mod Writing
pub mod Laws
pub mod Steps
