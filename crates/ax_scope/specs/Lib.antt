pub mod NameTable
pub mod Names
pub mod Resolve
pub mod Around
pub mod Stops
pub mod Faults
pub mod Module
pub mod Answers
