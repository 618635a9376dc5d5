pub mod RowEntries
pub mod Sinks
pub mod Handing
pub mod Entries
