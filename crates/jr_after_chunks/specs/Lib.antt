pub mod Index
pub mod Judging
pub mod Laws
pub mod LinesFound
pub mod Next
