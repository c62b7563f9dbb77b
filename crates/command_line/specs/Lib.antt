pub mod Explore
pub mod Lists
pub mod Numbers
pub mod Requests
pub mod inner
