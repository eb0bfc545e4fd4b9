pub mod Answers
pub mod Writing
pub mod Report
pub mod Places
pub mod Serve
pub mod Reads
pub mod Judged
pub mod Commands
