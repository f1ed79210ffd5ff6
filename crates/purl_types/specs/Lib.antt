pub mod Candidate
pub mod Canonical
pub mod Folding
pub mod Same
pub mod Table
