-- What the contracts of writer_expiry cite.
pub mod Losing
