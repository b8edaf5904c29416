pub mod Settling
pub mod Chipwise
pub mod Diskwise
