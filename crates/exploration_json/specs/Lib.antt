pub mod Claims
pub mod Data
