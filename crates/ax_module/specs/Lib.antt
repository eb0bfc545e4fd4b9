pub mod Ascii
pub mod Kinds
pub mod Names
pub mod Ranges
pub mod Types
pub mod WellFormed
pub mod Words
