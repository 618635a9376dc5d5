pub mod Faults
pub mod Numbers
pub mod Written
pub mod Readings
