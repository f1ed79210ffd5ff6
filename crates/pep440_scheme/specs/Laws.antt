pub mod Ends
pub mod FirstWords
pub mod Suffixes
pub mod Behind
pub mod Release
pub mod Solid
pub mod Reading
pub mod Texts
