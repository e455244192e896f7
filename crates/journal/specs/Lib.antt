-- What this crate's contracts cite: what the enums mean (Answers), the calls (Calls), records as they are written (Record) and
-- as they are read (Journal). Below Calls, Record and Journal are their laws, which nobody has to believe. Assumes nothing.
pub mod Answers
pub mod Calls
pub mod Record
pub mod Journal
