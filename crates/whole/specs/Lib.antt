-- All portions and the plan in one call.

-- what `plan_whole` promises
pub mod Whole
