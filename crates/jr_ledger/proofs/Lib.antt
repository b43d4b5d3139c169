pub mod ReadingLemmas
pub mod SyncLaws
pub mod WorkedLines
pub mod WorkedSyncs
