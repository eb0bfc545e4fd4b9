pub mod Coding
pub mod Ways
