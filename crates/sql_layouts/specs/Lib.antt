pub mod Found
pub mod Looks
pub mod Shapes
pub mod Checks
pub mod Tables
pub mod RisingRows
pub mod RowidQueries
