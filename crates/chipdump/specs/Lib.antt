pub mod Tallies
pub mod Finding
