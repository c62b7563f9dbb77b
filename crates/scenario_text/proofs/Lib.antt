mod BrokenLemmas
mod ClockLemmas
pub mod EntryLemmas
pub mod FrameLemmas
mod FrontLemmas
mod ListLemmas
mod NameLemmas
mod NoiseLemmas
mod OneScenario
pub mod TableLemmas
mod RefusedLaws
mod WholeLemmas
