-- What proofs and private contracts alone cite.
pub mod Records
pub mod Marks
