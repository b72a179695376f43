pub mod Rows
pub mod Runs
pub mod Refusals
pub mod Ends
pub mod Laws
pub mod Settled
