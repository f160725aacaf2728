pub mod Written
pub mod Digits
pub mod Pieces
pub mod Signs
pub mod Runs
pub mod Decided
