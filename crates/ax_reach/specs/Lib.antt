pub mod FunctionState
pub mod Frames
pub mod Facts
pub mod Places
pub mod Near
pub mod Ways
pub mod Clauses
