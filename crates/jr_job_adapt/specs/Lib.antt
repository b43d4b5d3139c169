pub mod Adapted
pub mod Causes
pub mod FaultTexts
pub mod Following
pub mod Keeping
