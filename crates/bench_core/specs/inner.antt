-- What proofs and private contracts alone cite.
pub mod Found
pub mod Kept
pub mod Nodes
pub mod OpenPulse
pub mod Replay
pub mod Served
pub mod Steps
pub mod Told
