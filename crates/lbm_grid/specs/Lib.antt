pub mod Strips
pub mod Near
pub mod NearLaws
pub mod Sweeps
pub mod Laws
