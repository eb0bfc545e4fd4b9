pub mod Effects
pub mod Skeletons
pub mod Instructions
pub mod Laws
