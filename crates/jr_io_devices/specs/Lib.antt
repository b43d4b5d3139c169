pub mod Devices
pub mod Extents
pub mod Identities
