-- The laws of refusals, which the proofs share, and of padding.
pub mod Refusals
pub mod Padding
