pub mod Padded
pub mod Same
pub mod Pairs
