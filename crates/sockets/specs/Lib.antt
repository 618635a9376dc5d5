pub mod Connections
pub mod Links
