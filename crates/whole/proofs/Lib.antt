pub mod Filled
pub mod Rests
pub mod Wholes
pub mod Settled
