pub mod Arithmetic
pub mod Conditions
pub mod Sizes
pub mod Skeleton
pub mod Instructions
pub mod Laws
