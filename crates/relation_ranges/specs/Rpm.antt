pub mod Holds
pub mod Spans
pub mod Reading
pub mod Range
pub mod Sizes
pub mod Back
pub mod Members
pub mod Apart
