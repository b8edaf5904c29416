pub mod Joining
pub mod Refusing
pub mod Halfwise
pub mod Staging
pub mod Reporting
