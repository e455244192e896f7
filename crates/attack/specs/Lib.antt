-- No needless refusals: what is behind a refusal 9 (`Attack`). Assumes nothing.
pub mod Attack
