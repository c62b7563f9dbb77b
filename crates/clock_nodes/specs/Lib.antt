pub mod Rule
pub mod Listings
pub mod Ends
