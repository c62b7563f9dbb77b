pub mod Beginnings
mod CanonicalLaws
mod InsnLemmas
mod LabelLemmas
mod ListingLaws
mod ListingLemmas
mod NumberLemmas
mod OperandLemmas
mod PieceLemmas
mod PlainLemmas
mod RunLemmas
mod StatementLemmas
pub mod WordLaws
