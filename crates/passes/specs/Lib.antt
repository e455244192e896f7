-- What inner functions of this crate work out: the least figures over flows (Least), records (Working), and flows as a list (Listing). No caller needs
-- these. Assumes nothing.
pub mod Least
pub mod Working
pub mod Listing
