pub mod Taking
pub mod Sent
