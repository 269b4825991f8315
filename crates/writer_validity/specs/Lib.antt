-- What the contracts of writer_validity cite beside model's definitions.
pub mod Agreed
