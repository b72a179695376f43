pub mod Counts
pub mod Modes
pub mod Settled
