-- Laws that the proofs of distinct_handles cite.
pub mod Order
