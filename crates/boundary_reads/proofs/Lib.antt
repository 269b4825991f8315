-- Laws that the proofs of boundary_reads cite.
pub mod Telling
