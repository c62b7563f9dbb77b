-- What proofs and private contracts alone cite.
pub mod Lengths
pub mod Marks
pub mod Parts
pub mod Rows
pub mod VerifiedParts
pub mod Walk
