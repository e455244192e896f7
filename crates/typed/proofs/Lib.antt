-- The laws that this crate's proofs cite: what is left of a pipeline (Places), pipelines one after the other (Going). Assumes nothing.
pub mod Places
pub mod Going
