pub mod State
pub mod Stepped
pub mod Parts
pub mod Items
