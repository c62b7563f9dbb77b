pub mod Steps
pub mod Always
pub mod inner
