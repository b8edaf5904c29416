pub mod Ways
pub mod Cuts
pub mod Orders
pub mod Examples
