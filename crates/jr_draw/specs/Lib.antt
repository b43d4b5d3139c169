pub mod ComingDraws
pub mod Courses
pub mod Drawing
pub mod PlacesSeen
