pub mod Rows
pub mod PieceLemmas
pub mod ScanLemmas
pub mod EscapeLemmas
pub mod QuotedLemmas
pub mod SliceLemmas
