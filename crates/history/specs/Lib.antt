pub mod Answers
pub mod Histories
pub mod Serving
pub mod Following
