pub mod Blocks
pub mod Rows
pub mod Limits
pub mod Accepted
pub mod Refusals
pub mod Held
pub mod Settled
pub mod Zero
