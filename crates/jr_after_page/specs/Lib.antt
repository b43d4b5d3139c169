pub mod Page
pub mod Rows
pub mod Status
