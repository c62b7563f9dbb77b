-- What proofs and private contracts alone cite.
pub mod Spans
pub mod Entries
