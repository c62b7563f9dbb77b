pub mod Dealt
pub mod Going
mod OneRun
mod OneShowing
pub mod OpeningLemmas
pub mod Showing
