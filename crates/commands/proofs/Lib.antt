pub mod CauseLemmas
pub mod FrontLemmas
pub mod LineLaws
pub mod ReadingLemmas
pub mod RunLemmas
pub mod SameTexts
pub mod StartLemmas
pub mod SweepLaws
mod WritingLemmas
