-- For the contracts of functions that no user calls.

-- what a put leaves of a buffer
pub mod Puts
