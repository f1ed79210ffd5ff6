pub mod Cuts
pub mod Grammar
pub mod Places
pub mod Printed
pub mod Reading
pub mod Spelling
pub mod Steps
pub mod Value
