-- What this crate's contracts cite: what came of a run of the program (Serving). Below it are its laws, which nobody has to believe. Assumes nothing.
pub mod Serving
