pub mod Moving
pub mod Ways
pub mod Sought
pub mod Carrying
pub mod Short
pub mod Trails
pub mod Laws
pub mod Numbers
