-- Laws that the proofs of lent_state cite.
pub mod Formed
