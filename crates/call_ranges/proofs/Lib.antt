-- Laws that the proofs of call_ranges cite.
pub mod Ranges
