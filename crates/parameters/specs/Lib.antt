pub mod Keys
pub mod Pulses
