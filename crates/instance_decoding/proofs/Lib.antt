-- Laws of records at their places, which the proofs of reading, writing and validity cite.
pub mod Rows
