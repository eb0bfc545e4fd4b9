pub mod Instructions
pub mod Slots
pub mod Sizes
pub mod Lines
pub mod Operations
