mod Operators
mod Guess
mod Quotients
mod Expansion
mod Floors
mod PairFormula
mod PairBounds
mod PairLanes
mod Equilibria
mod PairCells
mod Ready
mod Collided
mod Wrapping
mod Summing
mod Advancing
pub mod Masks
mod Outcome
