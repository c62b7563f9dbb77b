-- What proofs and private contracts alone cite.
pub mod Exec
pub mod Input
