pub mod Parts
pub mod UnitTexts
pub mod CountsTexts
