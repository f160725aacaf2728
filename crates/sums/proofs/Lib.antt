pub mod Rows
pub mod Adding
pub mod Summing
pub mod Decided
