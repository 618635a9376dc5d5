pub mod TalkLemmas
pub mod AnswerLemmas
pub mod LineLemmas
pub mod ToldLemmas
