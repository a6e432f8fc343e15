pub mod Motions
pub mod Moved
pub mod Sets
pub mod Laws
pub mod Worked
