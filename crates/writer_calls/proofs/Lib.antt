-- Laws that the proofs of writer_calls cite.
pub mod Sheets
pub mod Leaving
