pub mod PlaceLemmas
pub mod ClaimLemmas
pub mod ExploreLemmas
pub mod TheoremLemmas
pub mod RenamedLemmas
mod OneExploration
pub mod SameBeds
pub mod RuleSteps
pub mod RulePaths
pub mod RulePlays
pub mod RuleChances
pub mod RulesFound
