pub mod DrawnPlaces
pub mod Grids
pub mod GridLaws
pub mod IndexLemmas
pub mod NameLemmas
pub mod NextLemmas
pub mod Over
pub mod TakenClones
