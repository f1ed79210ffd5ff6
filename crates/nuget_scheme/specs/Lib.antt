pub mod Version
pub mod Order
pub mod Spelling
pub mod Writing
pub mod Past
pub mod Laws
pub mod Steps
