pub mod Rows
pub mod Seats
pub mod Passes
pub mod Receipts
pub mod Plans
pub mod Told
pub mod Ends
pub mod inner
