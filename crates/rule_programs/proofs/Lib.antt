pub mod Rebuilt
pub mod ProgramLemmas
pub mod TableMeaning
