pub mod Checked
pub mod Executed
