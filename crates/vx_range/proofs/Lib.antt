pub mod FoundLaws
pub mod MadeLaws
pub mod PieceFound
pub mod PieceLaws
pub mod PieceSteps
pub mod RunningLaws
