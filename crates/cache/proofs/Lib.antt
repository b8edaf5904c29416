pub mod Calling
pub mod Starting
