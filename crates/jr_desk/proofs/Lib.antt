mod Boxed
pub mod Ending
pub mod Playing
pub mod Reading
pub mod Refusing
pub mod Running
