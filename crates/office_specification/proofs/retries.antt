pub mod Once
pub mod Delivered
pub mod Running
