mod Indexes
mod Tables
mod Bounds
mod Pieces
mod Reached
