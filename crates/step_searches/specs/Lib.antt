pub mod Claims
pub mod Laws
pub mod Searches
pub mod Views
