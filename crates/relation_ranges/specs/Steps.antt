pub mod DebBack
pub mod RpmBack
pub mod Terms
