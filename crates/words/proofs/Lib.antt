pub mod Parts
pub mod Found
pub mod Wrap
pub mod Laws
pub mod WordByWord
pub mod Decided
