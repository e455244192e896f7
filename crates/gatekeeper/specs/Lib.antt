-- What this crate's contracts cite: the monitor as tables (View); and what a call does on tables in which nothing dangles (Acting), which no caller needs.
-- Assumes nothing.
pub mod View
pub mod Acting
pub mod Numbering
