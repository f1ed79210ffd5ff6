pub mod FoldLaws
pub mod Letters
pub mod OneAnswer
pub mod Pairwise
pub mod SameLaws
pub mod Utf8
pub mod Values
