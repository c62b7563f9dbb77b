pub mod Values
pub mod Texts
