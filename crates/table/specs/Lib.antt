pub mod Tables
pub mod Choices
pub mod Views
pub mod Examples
pub mod Usages
