pub mod Text
pub mod Head
pub mod Refusals
pub mod Voxels
pub mod Laws
pub mod Worked
