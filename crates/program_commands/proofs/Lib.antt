pub mod ExplainLemmas
pub mod AnswerLemmas
pub mod CaseLemmas
pub mod VerdictLemmas
pub mod TracedLemmas
pub mod LeavesLemmas
pub mod ExecLemmas
