pub mod Bytes
pub mod PastLaws
pub mod ReleaseLaws
