-- Laws that the proofs of instance_reads and of the crates above cite.
pub mod Table
pub mod Answers
pub mod Scans
pub mod Walks
pub mod Stored
pub mod Members
pub mod Left
pub mod Lists
