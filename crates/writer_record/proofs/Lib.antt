-- Laws that the proofs of writer_record cite.
pub mod Laws
pub mod Leases
