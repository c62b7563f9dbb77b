pub mod Programs
pub mod ProgramLines
