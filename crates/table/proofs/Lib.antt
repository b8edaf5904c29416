pub mod Tablewise
pub mod Changing
pub mod Keeping
pub mod Marking
pub mod Choosing
pub mod Elsewhere
pub mod Cheapest
