pub mod Sizes
pub mod Conservation
pub mod Bounds
pub mod Limits
pub mod FirstSizes
pub mod Least
pub mod Agreement
