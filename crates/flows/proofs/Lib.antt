-- The figures to start from (Starting), needs as figures (Nodes), labels below needs (Short). Assumes nothing.
pub mod Starting
pub mod Nodes
pub mod Short
