pub mod Turns
pub mod Firsts
pub mod Orders
pub mod Parts
pub mod Places
