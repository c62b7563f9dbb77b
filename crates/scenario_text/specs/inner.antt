-- What proofs and private contracts alone cite.
pub mod Arrays
pub mod Faults
pub mod Names
pub mod Setups
