pub mod FaultTexts
pub mod JobText
pub mod Number
pub mod Reading
pub mod Records
pub mod Refusals
