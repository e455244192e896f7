-- What inner functions of this crate work out, on arrays (Short). No caller needs it. Assumes nothing.
pub mod Short
