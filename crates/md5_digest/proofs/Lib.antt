-- The laws that the proofs share.
pub mod Writing
pub mod Agreement
pub mod Tails
pub mod SineTable
