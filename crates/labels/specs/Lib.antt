-- Labels as numbers (Codes). Assumes nothing.
pub mod Codes
