pub mod FaultTexts
pub mod Lookups
pub mod OptionValues
pub mod OptionWords
pub mod Options
pub mod Settings
pub mod Shapes
pub mod Wordings
