-- Laws that the proofs of writer_pass and of the crates above cite.
pub mod Picks
pub mod Passing
pub mod Reading
pub mod Declaring
pub mod Prefixes
pub mod Asserting
