pub mod Ends
pub mod Found
pub mod Marks
pub mod Raised
