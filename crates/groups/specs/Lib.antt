-- What this crate's contracts cite: groups as bytes (Groups). Assumes nothing.
pub mod Groups
