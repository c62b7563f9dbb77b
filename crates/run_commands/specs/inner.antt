-- What proofs and private contracts alone cite.
pub mod Lines
pub mod NodeRule
pub mod TracedRun
