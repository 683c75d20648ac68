pub mod Host
pub mod Hosted
