pub mod DemoRequests
pub mod Rows
pub mod ActRows
pub mod LastRevision
pub mod ExportRows
pub mod DomainRows
