-- The laws of the definitions in specs/, under the same names, and what the proofs share.
pub mod Attack
