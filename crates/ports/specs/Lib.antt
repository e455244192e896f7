-- What this crate's contracts cite: what the program's ports come to (Ports). Below it are its laws, which nobody has to believe. Assumes nothing.
pub mod Ports
