pub mod Cells
pub mod Faults
pub mod Calls
pub mod Chips
pub mod Disks
pub mod Laws
