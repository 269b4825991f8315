-- Laws that the proofs of instance_table and of the crates above cite.
pub mod Rows
pub mod Handles
pub mod Finding
pub mod Records
pub mod LaidOut
