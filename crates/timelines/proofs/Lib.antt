pub mod CourseLaws
pub mod CurveLaws
pub mod RangeLaws
