pub mod SetLaws
pub mod Moving
pub mod Gains
pub mod Sizes
pub mod Neighbours
pub mod Mass
pub mod SmallStates
pub mod Drift
pub mod Local
pub mod FirstLemmas
pub mod States
pub mod Worked
pub mod RowPlaces
pub mod Populations
mod ZeroMask
