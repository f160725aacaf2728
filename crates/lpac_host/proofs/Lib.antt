pub mod Bounds
pub mod Hosting
