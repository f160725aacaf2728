pub mod Commas
pub mod Regions
pub mod Summing
pub mod Closing
pub mod StatementTests
pub mod StatementKinds
pub mod StepRules
