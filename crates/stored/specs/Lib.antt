-- What this crate's contracts cite: a monitor and its tally as bytes (State), bytes stored over others (Over), and how long what is stored is (Widths). Below them are their laws, which nobody has to believe.
-- Assumes nothing.
pub mod State
pub mod Widths
pub mod Over
