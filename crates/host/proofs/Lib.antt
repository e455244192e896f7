-- The laws that this crate's proofs cite: lent bytes of a state's length (Sizing), what a call leaves in the state's bytes (Calling), what a line does (Typing), answers as numbers (Answering), what a host is shown (Seeing), and what it is told of a refusal 9 (Explaining). Assumes nothing.
pub mod Sizing
pub mod Calling
pub mod Typing
pub mod Answering
pub mod Seeing
pub mod Explaining
