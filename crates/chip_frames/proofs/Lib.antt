pub mod Restating
pub mod Numbers
pub mod Parts
pub mod Framing
pub mod Pagewise
