pub mod Scanning
pub mod Texts
