-- What the contracts of tables and of the crates above cite.
pub mod Keys
pub mod Found
pub mod Gaps
pub mod Places
