pub mod Apart
pub mod Making
pub mod PastLaws
pub mod Bytes
