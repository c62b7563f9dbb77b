pub mod FaultLemmas
pub mod SaidLemmas
pub mod StartLemmas
pub mod WriteLemmas
