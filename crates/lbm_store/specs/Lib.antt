pub mod Maps
pub mod Memory
pub mod Outside
pub mod Pieces
pub mod Sinks
