pub mod Rows
pub mod Grammar
pub mod Tested
pub mod Lexed
pub mod Counted
pub mod Readings
