pub mod Cells
pub mod Sums
pub mod Back
pub mod Places
pub mod Offsets
pub mod RowStarts
pub mod Shifts
pub mod Slabs
pub mod Interior
mod Worked
