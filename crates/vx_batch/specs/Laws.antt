pub mod Requests
pub mod Translations
