pub mod Lanes
pub mod Pairs
pub mod Cells
pub mod Sums
pub mod Progress
