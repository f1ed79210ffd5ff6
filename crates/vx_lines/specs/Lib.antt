pub mod Outside
pub mod InMemory
pub mod Lines
pub mod Output
pub mod Steps
