-- The laws that this crate's proofs cite: chains of handle records are chains of handles (Bridge), what a search finds is a chain behind the call (Finding), the arrays
-- that the search is given are the tables as the call would leave them (Sought), and a chain by slot is one by number (Telling), on a monitor (Explaining). Assumes
-- nothing.
pub mod Bridge
pub mod Finding
pub mod Sought
pub mod Telling
pub mod Explaining
