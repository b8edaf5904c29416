pub mod Numbers
pub mod Recordwise
pub mod Entrywise
pub mod Trailerwise
pub mod Cellwise
pub mod Partwise
pub mod Reading
pub mod Unique
