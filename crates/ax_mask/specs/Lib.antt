pub mod Pairs
pub mod Codes
pub mod Prepared
pub mod Wrapped
pub mod Updates
pub mod Exchanges
pub mod Laws
