-- The laws that this crate's proofs cite: what owning a value tells (Owned), loading from the state's bytes (Loading), the bytes of a number (Numbers), and storing into them (Storing). Assumes nothing.
pub mod Owned
pub mod Loading
pub mod Numbers
pub mod Storing
