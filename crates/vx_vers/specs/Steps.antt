-- Words that the contracts of single steps need, and no public one.
pub mod Numbering
pub mod Passing
pub mod Reading
pub mod Writing
