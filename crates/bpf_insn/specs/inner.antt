-- What proofs and private contracts alone cite.
pub mod Encoding
pub mod Images
pub mod Opcodes
pub mod Programs
pub mod Reading
pub mod Registers
