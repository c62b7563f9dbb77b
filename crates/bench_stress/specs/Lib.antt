pub mod Stressed
