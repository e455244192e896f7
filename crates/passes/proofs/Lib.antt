-- Figures raised along flows (Raising), flows as a list (Listing). Assumes nothing.
pub mod Raising
pub mod Listing
