pub mod Telling
pub mod Tables
pub mod Printing
