pub mod Running
pub mod Checking
