-- Laws that the proofs of writer_expiry cite.
pub mod Expiring
pub mod Taking
