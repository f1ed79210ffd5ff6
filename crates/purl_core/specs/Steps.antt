-- Words that only steps of bodies need.
pub mod Cutting
pub mod Pairing
pub mod Placing
pub mod Reads
pub mod Written
