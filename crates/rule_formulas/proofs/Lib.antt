pub mod FormedTerms
pub mod StoreLists
