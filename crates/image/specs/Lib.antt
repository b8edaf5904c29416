pub mod Exact
pub mod OfChip
pub mod OfDisk
