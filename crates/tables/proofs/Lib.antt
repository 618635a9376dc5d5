pub mod EntriesCut
pub mod Handings
pub mod LanguageUnits
pub mod CountsFound
pub mod OfficeUnits
pub mod NothingCounted
pub mod Records
pub mod RunsOn
pub mod Started
mod NothingFound
mod Written
pub mod TotalsPut
pub mod TallyMoves
pub mod TallyPolicy
mod ApprovalsCounted
