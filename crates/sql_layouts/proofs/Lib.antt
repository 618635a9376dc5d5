pub mod Looked
pub mod Parts
pub mod Looks
pub mod RowidTests
pub mod RowidQueries
pub mod WholeTest
pub mod LaidOut
pub mod LayoutsTold
