pub mod Command
pub mod Reasons
pub mod Words
pub mod inner
