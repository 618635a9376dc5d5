pub mod Flat
mod Rows
