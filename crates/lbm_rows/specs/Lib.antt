pub mod Kept
pub mod Lending
pub mod Serving
pub mod Division
pub mod TileRows
pub mod Laws
pub mod Tiles
pub mod CellRows
