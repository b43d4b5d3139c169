pub mod CoverLaws
pub mod DrawLaws
pub mod DrawnCellsLaws
pub mod PassLaws
pub mod TheLaw
