pub mod Limits
pub mod Verdicts
pub mod Refusals
