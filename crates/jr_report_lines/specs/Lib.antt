pub mod InOrder
pub mod Miscompares
