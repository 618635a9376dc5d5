mod Decided
mod Suggestions
mod Pieces
pub mod OneDelivery
pub mod Earlier
pub mod Reached
pub mod AlongHistories
pub mod Calls
pub mod Totals
pub mod Moves
pub mod ProjectCounts
pub mod OfficeCounts
