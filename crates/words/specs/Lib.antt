pub mod Words
pub mod Parts
pub mod Search
