pub mod Begun
pub mod EpochParts
pub mod Escapes
pub mod Folding
pub mod Numeral
pub mod Past
pub mod Pieces
pub mod Steps
