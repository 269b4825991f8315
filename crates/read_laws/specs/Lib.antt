-- What is claimed of the writer lookup.
pub mod Lookups
