pub mod Pairs
pub mod Runs
pub mod Places
pub mod Pads
pub mod Regions
pub mod Steps
