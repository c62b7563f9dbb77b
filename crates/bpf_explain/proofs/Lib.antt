pub mod Listing
pub mod Rowing
