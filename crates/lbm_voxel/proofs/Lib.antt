pub mod Worked
pub mod Runs
pub mod Heads
pub mod FirstWords
pub mod Densities
pub mod MadeCases
