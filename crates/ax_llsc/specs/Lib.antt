pub mod Rounds
pub mod Loops
pub mod Codes
pub mod Laws
