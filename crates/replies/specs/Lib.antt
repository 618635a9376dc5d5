pub mod Bodies
pub mod LanguageFields
