pub mod Bytes
pub mod Cutting
pub mod PastLaws
pub mod RowLaws
pub mod SegmentLaws
