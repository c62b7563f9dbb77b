pub mod Cells
pub mod Sweeps
