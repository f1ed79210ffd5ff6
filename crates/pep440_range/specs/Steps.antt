pub mod Operands
pub mod Pushed
pub mod BackTexts
