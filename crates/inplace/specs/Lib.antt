-- What this crate's contracts cite: records as bytes (Bytes). Below it are its laws, which nobody has to believe. Assumes nothing.
pub mod Bytes
pub mod Counts
