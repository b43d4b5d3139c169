pub mod Differences
pub mod Joined
mod WorkedDiagnoses
