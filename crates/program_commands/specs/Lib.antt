pub mod Asm
pub mod RuleListing
pub mod Compile
pub mod Dis
pub mod Exec
pub mod Explained
pub mod Verdict
pub mod inner
