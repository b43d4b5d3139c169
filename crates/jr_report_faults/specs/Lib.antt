pub mod Faults
pub mod Tickets
