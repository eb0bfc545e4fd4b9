pub mod Asking
pub mod Lowered
pub mod Taking
