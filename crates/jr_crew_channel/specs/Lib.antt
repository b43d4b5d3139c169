pub mod Balance
pub mod PassStates
pub mod Passes
pub mod Shares
