-- "Taking the plan reads row 0".

-- what taking answers
pub mod Said
-- what taking promises
pub mod Take
-- nothing that has to be believed
pub mod inner
