pub mod Readings
pub mod Levels
pub mod ReadTerms
pub mod Follows
pub mod ReadActions
pub mod ReadBlocks
pub mod ReadRules
