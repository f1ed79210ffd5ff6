pub mod Cuts
pub mod Domains
pub mod Names
pub mod Native
pub mod Scheme
pub mod Values
