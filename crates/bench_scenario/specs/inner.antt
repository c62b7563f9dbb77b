-- What proofs and private contracts alone cite.
pub mod InStep
pub mod Rows
pub mod Runs
pub mod Paying
