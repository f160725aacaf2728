pub mod Reducing
pub mod Keeping
pub mod Products
pub mod Squares
pub mod Copying
pub mod Goals
pub mod Decided
