pub mod BracePlaceholders
pub mod Directives
pub mod Findings
pub mod Formats
pub mod Members
pub mod Result
pub mod Source
