pub mod Bits
pub mod Diagnoses
pub mod Headers
pub mod Rulings
pub mod Sectors
pub mod Texts
