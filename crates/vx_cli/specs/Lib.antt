pub mod Jobs
pub mod Statuses
pub mod Runs
pub mod Steps
