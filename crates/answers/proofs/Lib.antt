pub mod Leads
pub mod Settled
pub mod Lending
