-- Laws that the proofs of writer_counts and of the tracker calls cite.
pub mod Laws
pub mod Turning
pub mod Holding
pub mod Singles
pub mod Matches
pub mod Calling
pub mod Calls
