pub mod Refusals
pub mod Searches
pub mod Tracing
pub mod Lent
pub mod Exits
pub mod Settled
