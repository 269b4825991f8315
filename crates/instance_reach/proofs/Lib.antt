-- Laws that the proofs of instance_reach and of the crates above cite.
pub mod Turns
pub mod Acting
pub mod Table
