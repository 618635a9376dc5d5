pub mod Kinds
pub mod Reading
pub mod Escapes
pub mod Lines
pub mod PlainTokens
