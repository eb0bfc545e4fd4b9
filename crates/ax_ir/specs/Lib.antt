pub mod Canonical
pub mod InstTokens
pub mod OperandTokens
pub mod Spacing
