pub mod Bars
pub mod Numbers
pub mod Partials
pub mod Pushed
