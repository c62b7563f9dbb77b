pub mod Always
pub mod Joined
