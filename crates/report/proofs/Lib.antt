pub mod Named
pub mod Room
pub mod Settled
