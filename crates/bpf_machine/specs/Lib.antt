pub mod Machine
pub mod Step
pub mod Traps
pub mod Run
pub mod Sound
pub mod inner
