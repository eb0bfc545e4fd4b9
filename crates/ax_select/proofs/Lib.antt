mod Counts
mod Ready
mod Grown
mod Lies
mod Selects
