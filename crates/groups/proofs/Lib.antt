-- The laws that this crate's proofs cite: handles closed (Closing), the lowest number in a group (Leading), a byte that nobody has (Counting). Assumes nothing.
pub mod Closing
pub mod Leading
pub mod Counting
pub mod Leaving
