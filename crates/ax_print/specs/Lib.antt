pub mod Assembly
pub mod Lowered
pub mod Tokens
pub mod Lines
pub mod Report
