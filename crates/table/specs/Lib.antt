-- "Bytes of a table" and "Refusal numbers", for a whole table.

-- what reading answers
pub mod Said
-- its blocks, and the order of its refusals
pub mod Order
-- its numbers, as asking gives them
pub mod Numbers
-- which numbers a table may have
pub mod Lawful
-- nothing that has to be believed
pub mod inner
