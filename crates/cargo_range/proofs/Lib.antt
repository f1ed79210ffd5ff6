pub mod Written
pub mod Intervals
pub mod EveryForm
