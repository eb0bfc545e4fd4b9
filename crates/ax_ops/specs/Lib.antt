pub mod Bytes
pub mod Operation
