-- What this crate's contracts cite: answers as those of the rules (Telling). Assumes nothing.
pub mod Telling
