pub mod Quorums
pub mod Steps
pub mod Views
