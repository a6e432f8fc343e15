pub mod Steps
pub mod InPlace
pub mod Rows
