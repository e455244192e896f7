-- The laws that the proofs of this crate and of those above it cite: loops over arrays (Maps), an array that a closure makes (Making), a test of some number below another (Below).
-- Assumes nothing.
pub mod Maps
pub mod Below
pub mod Seating
pub mod Making
