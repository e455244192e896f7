-- The laws that this crate's proofs cite: each way through the readers of records (Entries) and of bodies (Bodies), and through
-- the writers (Writer). Assumes nothing.
pub mod Entries
pub mod Bodies
pub mod Writer
