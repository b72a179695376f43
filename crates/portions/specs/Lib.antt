-- "A portion starts at progress p with a budget b".

-- what a portion answers
pub mod Said
-- what a portion promises
pub mod Portion
-- portions after each other
pub mod Runs
