pub mod Notes
pub mod Points
pub mod Ready
pub mod Steps
pub mod Drops
