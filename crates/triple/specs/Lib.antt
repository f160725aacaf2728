pub mod Courses
pub mod Triple
