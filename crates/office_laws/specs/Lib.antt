pub mod Acts
pub mod Cuts
pub mod LineForms
pub mod Tokens
pub mod World
pub mod Simulation
pub mod Histories
pub mod Tallies
