pub mod FormatScans
pub mod Fronts
pub mod Members
pub mod Parts
pub mod Rows
pub mod Scanning
pub mod Striking
