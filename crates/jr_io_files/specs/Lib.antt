pub mod Devices
pub mod Engines
pub mod Made
pub mod Opened
pub mod Uses
pub mod ToRead
