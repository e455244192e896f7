-- The laws that this crate's proofs cite: who has a file mapped, and what these subjects become (Reading). Assumes nothing.
pub mod Reading
