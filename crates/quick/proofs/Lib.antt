-- The laws that this crate's proofs cite: a call that was done on a monitor's parts (Doing), that what is settled goes by no object's number (Renumbering), and for an open and a
-- close what the quick tests say (Opening, Closing). Assumes nothing.
pub mod Doing
pub mod Renumbering
pub mod Opening
pub mod Closing
