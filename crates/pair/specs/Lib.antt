pub mod Halves
pub mod Pairs
