pub mod Instances
pub mod Searching
pub mod Views
