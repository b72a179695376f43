-- For proofs, and for the contracts of functions that no user calls.

-- a task's modes as its row is filled by them
pub mod Modes
