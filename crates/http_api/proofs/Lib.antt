pub mod AnswerLemmas
pub mod Coming
pub mod Connecting
pub mod Counting
pub mod Exporting
pub mod Handing
pub mod ItemLemmas
pub mod Looping
pub mod MessageLemmas
pub mod NameLemmas
pub mod NoMore
pub mod NumberLemmas
pub mod Serving
pub mod Stepping
pub mod Unreading
mod AnswerVectors
