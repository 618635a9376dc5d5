pub mod Keywords
pub mod Numbers
pub mod Pushed
pub mod Text
pub mod Writing
