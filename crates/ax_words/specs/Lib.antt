pub mod Width
pub mod Orders
pub mod Operation
pub mod Routine
