pub mod Rooms
pub mod Runs
pub mod Saving
pub mod Seen
pub mod Sweeps
pub mod There
