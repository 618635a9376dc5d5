pub mod EntryAgain
pub mod LinesAgain
pub mod Pieces
pub mod Pushes
mod ReadRows
mod Rows
pub mod Spelled
pub mod Written
