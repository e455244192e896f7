-- The laws that this crate's proofs cite: each way through the reader, and each way through the writer. Assumes nothing.
pub mod Reader
pub mod Writer
