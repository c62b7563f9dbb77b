pub mod Bounded
pub mod inner
