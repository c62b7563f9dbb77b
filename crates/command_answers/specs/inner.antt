-- What proofs and private contracts alone cite.
pub mod Faults
pub mod Rejections
pub mod Responses
pub mod Left
