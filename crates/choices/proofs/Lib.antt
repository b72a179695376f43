pub mod Tables
pub mod Meeting
pub mod Prices
pub mod Loads
pub mod Leasts
pub mod Asked
pub mod Settled
