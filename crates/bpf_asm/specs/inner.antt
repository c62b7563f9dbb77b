-- What proofs and private contracts alone cite.
pub mod Canonical
pub mod Listing
pub mod Meaning
pub mod Numbers
pub mod Operands
pub mod Pieces
pub mod Statements
