pub mod Operands
pub mod Fits
pub mod Code
pub mod Ends
pub mod Refusals
pub mod Owners
