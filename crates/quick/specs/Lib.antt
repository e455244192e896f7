-- What this crate's contracts cite: the parts of a monitor as bytes, and a call that was done in place (Parts). Assumes nothing.
pub mod Parts
