-- The laws of the rules. What they are of stands in specs/, under the same names.
pub mod Label
pub mod Flow
pub mod Tables
pub mod Steps
pub mod Invariant
pub mod Calls
pub mod Figures
pub mod Promise
pub mod Demand2
pub mod Tally
pub mod Book
pub mod Demand3
pub mod Cases
