pub mod Courses
pub mod Indexes
pub mod Phases
pub mod Rounds
