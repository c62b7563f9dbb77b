-- What proofs and private contracts alone cite.
pub mod Codes
pub mod Env
pub mod Slots
