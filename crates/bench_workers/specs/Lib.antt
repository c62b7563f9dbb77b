pub mod Events
pub mod Laws
pub mod Opening
pub mod Runs
pub mod ThreadStarts
pub mod Watching
pub mod inner
