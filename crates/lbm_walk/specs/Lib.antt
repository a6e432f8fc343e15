pub mod Blocks
pub mod Turns
pub mod First
pub mod Places
pub mod Walked
pub mod Orders
