pub mod Decisions
pub mod EachRow
pub mod CallNames
