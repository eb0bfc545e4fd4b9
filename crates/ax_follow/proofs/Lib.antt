pub mod Bounds
pub mod Quiet
pub mod Flat
pub mod Runs
pub mod Follow
