pub mod Entering
pub mod Fetching
pub mod Flushing
pub mod Quietly
pub mod Remarking
pub mod Roomily
pub mod Waking
pub mod Written
