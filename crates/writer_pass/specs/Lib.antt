-- What the contracts of writer_pass cite.
pub mod Passes
