pub mod WritesInTurn
pub mod PlannedWrites
pub mod PolicyTurns
pub mod TallyRows
pub mod UnitTallied
pub mod FiguresInTurn
pub mod WholeTransactions
pub mod ActsWritten
pub mod ActsMeant
pub mod TalliesMoved
pub mod LastPlaces
pub mod VotesCast
pub mod DomainFound
mod EntriesShown
