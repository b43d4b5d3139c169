pub mod Adding
pub mod Reports
pub mod RowLemmas
pub mod Shares
pub mod Walks
