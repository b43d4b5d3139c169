pub mod CurrentRound
pub mod Deferred
pub mod Kept
pub mod Rounds
