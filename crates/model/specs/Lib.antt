-- The rules of the gatekeeper. Definitions stand in the files named here, their laws in the folders of the same names.
pub mod Cases
pub mod Bools
pub mod Lists
pub mod Sets
pub mod Label
pub mod Flow
pub mod Tables
pub mod Steps
pub mod Invariant
pub mod Calls
pub mod Figures
pub mod Promise
pub mod Demand2
pub mod Tally
pub mod Book
pub mod Demand3
pub mod Rows
