pub mod Least
pub mod Line
pub mod Logarithm
pub mod Pieces
pub mod Steps
