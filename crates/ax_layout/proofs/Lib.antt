pub mod Elements
pub mod LockWords
pub mod Spans
