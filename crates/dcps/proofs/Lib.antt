-- Laws that the proofs of dcps cite.
pub mod Beginnings
pub mod Coding
pub mod Numbers
