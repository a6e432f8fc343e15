pub mod Ckpt
pub mod Laws
pub mod Hashing
