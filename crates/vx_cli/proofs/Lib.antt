pub mod Joined
pub mod Numbers
pub mod Said
pub mod WordRows
