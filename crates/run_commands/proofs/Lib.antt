pub mod TracedRunLemmas
pub mod NodeRuleLemmas
