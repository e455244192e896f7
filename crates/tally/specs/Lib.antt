-- What this crate's contracts cite: a counted call (Counting). Assumes nothing.
pub mod Counting
