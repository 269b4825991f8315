-- What the contracts of writer_effects cite.
pub mod Acts
