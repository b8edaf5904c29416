pub mod Geometry
pub mod Bytes
pub mod Records
pub mod Entries
pub mod Pages
pub mod Laws
pub mod Apart
