pub mod Records
pub mod Blind
pub mod inner
