pub mod Boards
pub mod Flyings
pub mod Rests
pub mod Standings
pub mod Takes
pub mod Waitings
pub mod WriteLogs
