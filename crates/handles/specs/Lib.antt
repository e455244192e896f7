-- What a change of the handles alone comes to (Handing), which contracts of this crate and of those above it cite; and what inner functions of this crate work out
-- (Working), which no caller needs. Assumes nothing.
pub mod Handing
pub mod Working
