-- Laws that the proofs of joined_calls cite.
pub mod Entering
pub mod Admitting
pub mod Gone
pub mod Losing
pub mod Lapsing
