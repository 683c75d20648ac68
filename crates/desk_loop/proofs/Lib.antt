pub mod Turning
pub mod Printing
