pub mod FaultTexts
pub mod Found
pub mod Judges
pub mod Reading
pub mod Readings
pub mod Sharing
