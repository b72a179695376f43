-- For proofs, and for the contracts of functions that no user calls.

-- a part of a lent slice
pub mod Part
-- what holds of the bytes of an accepted table
pub mod Accepted
