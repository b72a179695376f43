-- "Rules for one mode", over a table.

-- a table's tasks as the planner sees them
pub mod Tasks
-- a choice asked for
pub mod Said
-- nothing that has to be believed
pub mod inner
