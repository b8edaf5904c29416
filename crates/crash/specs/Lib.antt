pub mod Crash
pub mod Orders
pub mod Examples
