-- What proofs and private contracts alone cite.
pub mod Cells
pub mod Codes
pub mod Parts
