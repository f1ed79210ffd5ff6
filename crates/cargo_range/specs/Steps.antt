pub mod Pushed
pub mod Forms
pub mod Terms
pub mod Intervals
