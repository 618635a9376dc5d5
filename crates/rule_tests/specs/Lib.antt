pub mod Parts
pub mod Given
pub mod Books
pub mod Bare
