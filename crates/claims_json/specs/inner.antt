-- What proofs and private contracts alone cite.
pub mod Counting
