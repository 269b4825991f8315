-- What the contracts of writer_counts and of the tracker calls cite.
pub mod Turns
pub mod WriterCalls
