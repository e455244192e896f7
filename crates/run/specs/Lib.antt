-- What this crate's contracts cite: the two buffers of a list run. Below it are its laws, which nobody has to believe. Assumes nothing.
pub mod Buffers
