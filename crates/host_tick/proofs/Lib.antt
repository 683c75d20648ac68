pub mod AnyRing
pub mod Settled
