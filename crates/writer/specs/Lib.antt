-- Writing the blocks of a table.

-- what a writer answers
pub mod Said
-- the order of the writers' refusals, and what they leave of the buffer
pub mod Order
