pub mod Askable
pub mod Extents
pub mod Memory
pub mod Signs
pub mod Stops
