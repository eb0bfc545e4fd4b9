pub mod Good
pub mod Fit
pub mod Pieces
pub mod Laws
