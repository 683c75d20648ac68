pub mod Numbers
pub mod Kinds
