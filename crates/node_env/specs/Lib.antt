pub mod Slots
pub mod Env
pub mod Dwords
pub mod Helpers
pub mod inner
