-- For the contracts of functions that no user calls.

-- a mode as it is held, and a row of cells
pub mod Rows
-- the next row, as it is held while a row is filled
pub mod Held
