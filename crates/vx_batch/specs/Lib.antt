pub mod Fields
pub mod Rows
pub mod Requests
pub mod Answers
pub mod Translations
pub mod Drill
pub mod Laws
pub mod Steps
