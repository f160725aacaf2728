pub mod Decode
pub mod Rounding
pub mod Products
pub mod Runs
pub mod Decided
