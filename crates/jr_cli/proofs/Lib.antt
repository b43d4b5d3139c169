pub mod CleanRuns
pub mod CutShort
pub mod EndedRuns
pub mod QuietRuns
