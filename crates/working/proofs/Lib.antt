pub mod Little
pub mod Doing
pub mod Settled
