pub mod Answers
pub mod CallCounts
pub mod Calls
pub mod Files
pub mod States
