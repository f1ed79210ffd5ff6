pub mod Dotted
pub mod Identifiers
pub mod Scanning
