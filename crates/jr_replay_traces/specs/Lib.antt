pub mod Runs
pub mod TraceChecks
pub mod TraceLaws
pub mod TraceLines
pub mod TraceSteps
pub mod Traces
