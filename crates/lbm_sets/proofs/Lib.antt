pub mod Products
pub mod Momentum
pub mod Isotropy
pub mod Rests
pub mod Drift
