pub mod Comparing
pub mod Rooms
pub mod PlainNames
pub mod Exits
pub mod Decided
