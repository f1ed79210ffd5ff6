pub mod EndLaws
pub mod NullLaws
pub mod PastLaws
pub mod TokenLaws
