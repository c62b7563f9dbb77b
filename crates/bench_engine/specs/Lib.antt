pub mod Pulses
pub mod inner
