-- The laws that this crate's proofs cite: a line of four parts, written one after the other. Assumes nothing.
pub mod Writer
