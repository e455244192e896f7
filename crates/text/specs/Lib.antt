-- What this crate's contracts cite: a number in decimal (Decimal) and the lines of the reply (Reply). Parts says how lines are
-- written one after the other, for callers. Below each are its laws, which nobody has to believe. Assumes nothing.
pub mod Decimal
pub mod Reply
pub mod Parts
