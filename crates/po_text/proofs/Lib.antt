pub mod EntryLists
pub mod HeaderLemmas
pub mod PieceCuts
pub mod LastTexts
pub mod FlagLemmas
pub mod Charsets
pub mod Checked
