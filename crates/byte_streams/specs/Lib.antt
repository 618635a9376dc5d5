pub mod Numbers
pub mod Streams
pub mod Sending
