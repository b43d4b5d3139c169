pub mod FaultlessRuns
pub mod JsonLines
