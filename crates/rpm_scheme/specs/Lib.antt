pub mod Version
pub mod Order
pub mod Spelling
pub mod Writing
pub mod Laws
