-- Refusal 3 of what a read is lent alone; the table of a list of calls, read back whole; and the writer lookup.
pub mod Tables
pub mod Counts
pub mod Makings
pub mod Heads
pub mod Whole
pub mod Lookups
