-- What proofs and private contracts alone cite.
pub mod Boards
pub mod Rows
