-- What proofs and private contracts alone cite.
pub mod Batches
pub mod Going
pub mod Watching
