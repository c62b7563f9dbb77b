pub mod Case
pub mod Shapes
