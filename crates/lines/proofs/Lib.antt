pub mod Parts
pub mod Regions
pub mod Walking
pub mod LineKinds
pub mod Statements
pub mod KindParts
pub mod Indexing
