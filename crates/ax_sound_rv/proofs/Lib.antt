pub mod Instructions
pub mod Masked
pub mod Rounds
pub mod Loops
pub mod Sizes
pub mod Lines
pub mod Whole
