pub mod Words
pub mod Slots
pub mod Places
pub mod Told
pub mod inner
