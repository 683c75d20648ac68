pub mod Cases
pub mod Lines
pub mod Bound
pub mod Count
pub mod Room
