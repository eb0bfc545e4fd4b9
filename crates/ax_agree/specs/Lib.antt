pub mod Library
pub mod Agree
pub mod Lowers
pub mod Rows
pub mod Sound
