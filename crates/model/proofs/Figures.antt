pub mod Laws
pub mod Falling
