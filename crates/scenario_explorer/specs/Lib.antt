pub mod Claims
pub mod Explore
pub mod OneExploration
pub mod RuleSystem
pub mod RuleOdds
pub mod RulePrevention
pub mod RuleBeds
