pub mod Prove
