pub mod FaultTexts
pub mod Splits
