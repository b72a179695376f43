pub mod Blocks
pub mod Writers
pub mod Demand1
pub mod Demand2
pub mod Demand3
pub mod Examples
pub mod Shut
pub mod Sample
