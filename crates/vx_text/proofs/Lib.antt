pub mod EpochLaws
pub mod EpochVersionLaws
pub mod EscapeLaws
pub mod Joins
pub mod PastLaws
pub mod PieceLaws
pub mod Pushed
pub mod ValueLaws
