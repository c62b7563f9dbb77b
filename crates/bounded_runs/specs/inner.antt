-- What proofs and private contracts alone cite.
pub mod Inputs
pub mod Marks
pub mod Run
pub mod Similar
