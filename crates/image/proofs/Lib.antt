pub mod Exactly
pub mod Chipside
pub mod Diskside
