pub mod Facts
pub mod Known
pub mod Rows
pub mod Reasons
