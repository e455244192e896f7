pub mod Laws
pub mod Changes
