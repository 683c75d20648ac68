pub mod Desk
pub mod Window
pub mod Held
pub mod Boxed
pub mod Runs
