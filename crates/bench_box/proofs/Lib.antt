pub mod Hosting
pub mod Boundary
pub mod Lists
