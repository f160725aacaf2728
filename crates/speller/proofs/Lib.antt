pub mod Judging
pub mod Giving
pub mod Decided
