pub mod Causes
pub mod Running
pub mod Carrying
