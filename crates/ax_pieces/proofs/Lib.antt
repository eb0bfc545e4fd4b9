pub mod Pushing
pub mod Phis
pub mod Targets
