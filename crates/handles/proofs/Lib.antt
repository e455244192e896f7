-- The laws that this crate's proofs cite: the handles kept (Cleaning), those on an object (Opening), the pipes that end (Ending), the numbers that a loop marks (Hitting), the
-- row of a subject (Rows). Assumes nothing.
pub mod Cleaning
pub mod Opening
pub mod Ending
pub mod Hitting
pub mod Rows
