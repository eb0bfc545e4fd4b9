pub mod Lines
pub mod Plain
pub mod Pieces
pub mod Endings
pub mod Functions
pub mod Known
pub mod Whole
