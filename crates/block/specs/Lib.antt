-- "Bytes of a table", for one block.

-- the numbers in its bytes, and its check
pub mod Bytes
-- where each number stands
pub mod Layout
-- a whole block, made of its numbers
pub mod Whole
-- the tests of its numbers, the same for reading and for writing
pub mod Tests
-- its numbers as the code holds them: nothing here has to be believed
pub mod inner
