pub mod Runs
pub mod Checksums
pub mod Sendings
pub mod Faults
pub mod Exports
pub mod Exchanges
pub mod Writers
pub mod UnitReads
