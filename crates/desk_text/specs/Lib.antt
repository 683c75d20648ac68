pub mod Digits
pub mod Put
pub mod Literal
pub mod Cases
