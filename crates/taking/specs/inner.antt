-- For the contracts of functions that no user calls.

-- what the search for the modes finds
pub mod Traces
-- taking past the tests
pub mod From
