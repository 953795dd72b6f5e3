pub mod Courses
pub mod Changes
pub mod Views
