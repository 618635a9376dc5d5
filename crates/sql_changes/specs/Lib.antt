pub mod OnDomains
pub mod UnitWrites
pub mod EntryWrites
pub mod Commits
