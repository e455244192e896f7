-- What this crate's contracts cite: answers as one number (Numbers), a host's calls (Demand3), a host's typed lines (Typing), a monitor and its tally as a struct (Lending), and what inner functions work
-- out (Working), which no host needs. A monitor and its tally as bytes are in crate `stored`. Below them are their laws, which nobody has to believe. Assumes nothing.
pub mod Numbers
pub mod Demand3
pub mod Typing
pub mod Lending
pub mod Behind
pub mod Working
