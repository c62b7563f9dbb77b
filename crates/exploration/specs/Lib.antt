pub mod Answers
pub mod Claims
