-- What this crate's contracts cite: the numbers of the journal (Leb) and writing over the front of a buffer (Put). Below each are
-- its laws, which nobody has to believe. Assumes nothing.
pub mod Leb
pub mod Put
