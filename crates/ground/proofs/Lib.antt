pub mod Tests
pub mod Congruence
pub mod Square
pub mod Lists
pub mod Numbers
pub mod Decided
