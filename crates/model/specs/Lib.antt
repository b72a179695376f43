-- "Numbers and limits", "Rules for one mode", "The plan" and "The workspace". No byte is known here.

-- the limits that sizes follow from
pub mod Limits
-- cores, demand and cost of one mode
pub mod Rules
-- values in turn
pub mod Turns
-- what a selection and the plan are
pub mod Plan
-- what a cell holds
pub mod Cells
-- which cell is which, filling cells by a rule, and a portion
pub mod Workspace
-- taking the plan from any cells
pub mod Taking
-- nothing that has to be believed
pub mod inner
