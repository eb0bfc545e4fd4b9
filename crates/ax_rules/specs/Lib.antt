pub mod Constants
pub mod Facts
pub mod Kind
pub mod Limits
pub mod Parts
pub mod Points
pub mod Signatures
pub mod Width
