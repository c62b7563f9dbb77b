pub mod InTable
pub mod InBranch
pub mod Growing
pub mod GrowingPairs
pub mod Members
