pub mod Standing
pub mod Rounds
pub mod Latest
