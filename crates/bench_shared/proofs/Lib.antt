pub mod Rowing
pub mod Moves
pub mod Telling
pub mod Closing
pub mod Counting
pub mod Passing
pub mod Newness
pub mod Placing
