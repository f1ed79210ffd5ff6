pub mod Fourth
pub mod Written
