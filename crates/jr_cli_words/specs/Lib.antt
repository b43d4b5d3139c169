pub mod BlockSizes
pub mod CommandLine
pub mod FaultTexts
pub mod Status
pub mod Workers
pub mod OwnTexts
