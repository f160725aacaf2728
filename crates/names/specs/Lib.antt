pub mod Names
pub mod Numbered
