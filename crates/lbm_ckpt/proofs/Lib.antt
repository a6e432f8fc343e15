pub mod Reading
pub mod Fours
pub mod Parts
pub mod Sized
pub mod Round
pub mod Hashing
pub mod Puts
