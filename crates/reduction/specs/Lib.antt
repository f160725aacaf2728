pub mod Order
pub mod Reducing
pub mod Places
