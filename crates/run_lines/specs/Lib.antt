pub mod Staged
pub mod Data
pub mod Readers
pub mod Laws
pub mod Lines
pub mod Telling
pub mod inner
