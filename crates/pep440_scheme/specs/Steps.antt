pub mod Apart
pub mod Written
pub mod Begun
