-- What this crate's contracts cite: records and arrays as tables (Records), the refusal of a call over the records that it looks at (Refusing), needs as
-- figures (Needs); and what inner functions work out (Working), which no caller needs. Assumes nothing.
pub mod Records
pub mod Needs
pub mod Working
pub mod Slots
