pub mod Answers
pub mod Faults
pub mod Lists
pub mod Messages
pub mod SendLines
pub mod TalkSteps
pub mod Talks
