pub mod ReadBack
pub mod Readers
pub mod Exact
pub mod Keys
pub mod rows
