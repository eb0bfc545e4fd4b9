pub mod Signs
pub mod Symbols
pub mod Pieces
pub mod Vectors
pub mod Grammar
