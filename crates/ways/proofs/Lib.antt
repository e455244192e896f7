-- The arcs of the handles (Drawing), goals and starts (Aiming), distances (Nearing), the walk down them (Walking), and the chain that is found (Finding).
-- Assumes nothing.
pub mod Drawing
pub mod Aiming
pub mod Nearing
pub mod Walking
pub mod Finding
