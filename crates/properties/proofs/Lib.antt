pub mod TallyLemmas
pub mod TextLemmas
