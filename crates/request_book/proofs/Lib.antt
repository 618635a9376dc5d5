pub mod CanonLemmas
mod Objects
pub mod EachRead
pub mod EachWritten
mod Parsed
mod Readers
mod Three
pub mod PartsLemmas
mod PutLemmas
mod TokenLemmas
mod TokenReads
mod Ends
