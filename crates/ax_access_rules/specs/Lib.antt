pub mod Alignment
pub mod Allocas
pub mod Mixed
pub mod Orders
pub mod RulesAtPoints
