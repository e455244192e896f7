-- The laws that this crate's proofs cite: tests one after another (Pick), the tally by code (Counting). Assumes nothing.
pub mod Pick
pub mod Counting
