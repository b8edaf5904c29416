pub mod Worlds
pub mod Rooms
