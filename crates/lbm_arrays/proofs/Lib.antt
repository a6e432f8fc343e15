pub mod Slots
pub mod Flags
pub mod Ranges
pub mod Forked
pub mod Held
pub mod Marks
pub mod LentOut
pub mod Lines
pub mod Padding
pub mod CopiedLines
pub mod Behind
pub mod Moves
pub mod LentReads
pub mod Runs
mod Worked
