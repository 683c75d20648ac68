pub mod Cases
pub mod BigEndian
pub mod Entries
