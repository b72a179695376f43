-- For the contracts of functions that no user calls.

-- a block's numbers together
pub mod Records
