-- The refusal of a call over the records that it looks at. Assumes nothing.
pub mod Refusing
