-- What this crate's contracts cite: the reply to a whole journal (Replay) and what one record does (One). Stage is kept by an inner loop. Cases has the
-- worked cases K1 to K11 in one table, Demand3 what demand 3 says of a journal. Below Replay and Demand3 are their laws, which nobody has to believe. Assumes nothing.
pub mod Replay
pub mod One
pub mod Stage
pub mod Cases
pub mod Demand3
