pub mod Covered
pub mod Paths
pub mod Relations
pub mod Stores
