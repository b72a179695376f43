-- The user's demands, over the promises.

-- each refusal has its number and place, and changes nothing
pub mod Demand1
-- tables are written and read back, and a portion fills just its cells
pub mod Demand2
-- what is taken at the end is the plan
pub mod Demand3
-- the starred examples
pub mod Examples
-- the programs that have to be shut out
pub mod ShutOut
