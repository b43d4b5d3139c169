pub mod Declining
pub mod Quiet
