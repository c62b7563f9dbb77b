pub mod Span
pub mod Results
pub mod Conditions
