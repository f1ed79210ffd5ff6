-- Words that the contracts of single steps need, and no public one.
pub mod Between
pub mod Places
