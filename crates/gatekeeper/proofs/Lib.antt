-- The laws that this crate's proofs cite: what owning a monitor tells (Owned), what each call does (Doing), how a method meets the rules (Acting), what its
-- stores are (Storing), and the needs that are kept (Keeping). Assumes nothing.
pub mod Owned
pub mod Doing
pub mod Acting
pub mod Storing
pub mod Keeping
pub mod Lifting
pub mod Numbered
pub mod Telling
