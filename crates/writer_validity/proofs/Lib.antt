-- Laws that the proofs of writer_validity and of the crates above cite.
pub mod Heads
pub mod Records
pub mod Values
pub mod Pass
