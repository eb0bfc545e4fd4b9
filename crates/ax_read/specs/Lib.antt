pub mod Derivation
pub mod Reads
