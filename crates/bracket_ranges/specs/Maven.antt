pub mod Alone
pub mod Range
pub mod Sizes
pub mod Members
