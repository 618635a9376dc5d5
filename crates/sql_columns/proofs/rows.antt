pub mod ColumnRows
