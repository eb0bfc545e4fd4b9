pub mod Pairs
pub mod Buffered
pub mod Refused
pub mod Nand
pub mod Swap
pub mod PairExchange
pub mod RefusedExchange
pub mod WidePairs
