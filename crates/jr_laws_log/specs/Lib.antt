pub mod Flying
pub mod Intact
