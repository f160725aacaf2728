pub mod Places
pub mod Search
pub mod Numbers
pub mod Keywords
pub mod Marks
pub mod Fields
pub mod Verdicts
