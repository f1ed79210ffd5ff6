pub mod Edges
pub mod Listed
pub mod Simplified
