pub mod Handing
pub mod Kept
pub mod Tickets
