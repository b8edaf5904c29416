pub mod Frames
pub mod Codes
