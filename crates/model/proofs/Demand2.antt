pub mod Laws
pub mod Mappings
pub mod Reads
pub mod Top
pub mod Quiet
pub mod Fewer
