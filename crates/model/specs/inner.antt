-- For proofs, and for the contracts of functions that no user calls.

-- what `cores` answers
pub mod Said
-- how dear modes and plans can be
pub mod Costs
-- whether a selection fits, by needs alone
pub mod Fitting
-- the plan by listing all selections
pub mod Listing
-- rows that hold their defined values, and what is said of any
pub mod Filled
-- portions in turn
pub mod Portions
