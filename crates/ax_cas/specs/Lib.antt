pub mod Rounds
pub mod Compares
pub mod Loops
pub mod Codes
pub mod Laws
