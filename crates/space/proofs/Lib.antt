pub mod Flagging
pub mod Placing
pub mod Reclaiming
pub mod Rooming
