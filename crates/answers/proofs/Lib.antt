-- The numbers of refusals (Numbers). Assumes nothing.
pub mod Numbers
