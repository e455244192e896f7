-- Chains of handle records between the 96 things, and what a search for the shortest one finds (Paths); what inner functions of this crate work out
-- (Near, Working). Assumes nothing.
pub mod Paths
pub mod Near
pub mod Working
