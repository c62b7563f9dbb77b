pub mod Data
pub mod inner
