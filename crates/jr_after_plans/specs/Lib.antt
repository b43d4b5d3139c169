pub mod Advice
pub mod FaultTexts
pub mod Fits
pub mod Taken
