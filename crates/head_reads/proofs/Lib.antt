-- Laws that the proofs of head_reads cite.
pub mod Heads
