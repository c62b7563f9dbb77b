pub mod CommandLemmas
pub mod NameLemmas
pub mod SayLemmas
pub mod WordLemmas
