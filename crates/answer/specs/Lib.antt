-- What an answer is.

-- what an answer says, in the document's numbers and values
pub mod Said
-- which of several refusals is given, and what a call leaves of a lent buffer
pub mod Order
-- that a promise settles its outcome
pub mod One
