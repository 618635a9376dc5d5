pub mod Texts
pub mod Strings
pub mod Entries
pub mod Header
pub mod Valid
pub mod Keys
pub mod Flags
pub mod Checked
