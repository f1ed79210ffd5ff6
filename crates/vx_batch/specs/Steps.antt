pub mod OneLine
pub mod Drill
pub mod Replies
