pub mod KeyRows
pub mod Rows
pub mod Sweeps
pub mod inner
