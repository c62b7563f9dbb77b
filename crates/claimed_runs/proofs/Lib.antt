pub mod NodeLemmas
pub mod JudgingLemmas
