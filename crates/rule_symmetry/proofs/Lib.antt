pub mod Counts
mod Least
mod Ordered
pub mod Terms
pub mod Rules
pub mod Sorting
pub mod Reordered
pub mod Places
