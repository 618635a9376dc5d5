pub mod RowMaps
pub mod ApartRows
pub mod PlainQueries
pub mod Upserts
pub mod OrderedQueries
pub mod DiskErrors
