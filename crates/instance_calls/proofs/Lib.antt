-- Laws that the proofs of instance_calls cite.
pub mod Turns
