pub mod Firsts
pub mod Moving
pub mod Packing
pub mod Laws
pub mod Pushing
pub mod Forgetting
pub mod Decided
