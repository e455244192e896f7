-- What inner functions of this crate work out (Working), which no caller needs. Assumes nothing.
pub mod Working
