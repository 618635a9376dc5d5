pub mod RowsTold
pub mod ColumnsTested
pub mod ColumnsRead
pub mod ContextsRead
pub mod RowsSoFar
pub mod SuggestionsRead
pub mod DiskFailures
