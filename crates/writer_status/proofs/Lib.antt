-- Laws that the proofs of writer_status and of the crates above cite.
pub mod Idle
