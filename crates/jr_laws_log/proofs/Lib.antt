pub mod OrderLemmas
pub mod LogGrowth
pub mod LastBlocks
pub mod IntactLaws
pub mod DrawLaws
pub mod FlyingLaws
