-- What this crate's contracts cite: what a typed line comes to (Typed), and what inner functions work out of it (Working), which no caller needs. Below each are its laws,
-- which nobody has to believe. Assumes nothing.
pub mod Typed
pub mod Working
