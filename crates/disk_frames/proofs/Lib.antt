pub mod Bytes
pub mod Changes
pub mod Parts
pub mod Blockwise
