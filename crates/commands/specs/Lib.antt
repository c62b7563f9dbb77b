pub mod Causes
pub mod ClaimedExplore
pub mod Explore
pub mod Perform
pub mod Scenarios
