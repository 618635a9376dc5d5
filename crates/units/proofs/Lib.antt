pub mod Placing
pub mod Compared
pub mod KeyTexts
pub mod FormLimits
pub mod Sums
