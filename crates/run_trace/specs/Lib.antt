pub mod Lines
pub mod Steps
pub mod Traces
pub mod inner
