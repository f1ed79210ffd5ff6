pub mod PairLaws
pub mod PastLaws
pub mod Bytes
