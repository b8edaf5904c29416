pub mod Moves
pub mod Works
pub mod Memories
