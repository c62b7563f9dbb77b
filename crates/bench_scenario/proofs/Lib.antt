mod CoinLemmas
mod CountLemmas
mod EventLemmas
mod FitLemmas
mod InStepLemmas
pub mod InputLemmas
mod ListLemmas
mod NoiseCounts
mod NoiseLemmas
mod NoisyLemmas
mod RowLemmas
mod RuleLaws
pub mod RunLemmas
pub mod SameScenarios
mod SayLengths
mod StreamLemmas
mod VerdictLaws
mod VerdictLemmas
mod WatchLemmas
mod Weights
