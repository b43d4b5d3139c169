pub mod DeskOf
pub mod DeskState
pub mod Plays
pub mod Refusals
