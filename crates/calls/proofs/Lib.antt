pub mod Through
pub mod Chain
