pub mod Running
pub mod Finishing
pub mod Carrying
