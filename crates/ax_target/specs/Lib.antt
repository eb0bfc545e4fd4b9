pub mod Targets
pub mod Decisions
pub mod Endings
pub mod X86Rows
pub mod ArmRows
pub mod RvRows
pub mod Calls
pub mod Rows
