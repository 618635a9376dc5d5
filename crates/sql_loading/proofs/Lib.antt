pub mod TwoTexts
pub mod PutAnew
pub mod OfficePut
pub mod Lending
