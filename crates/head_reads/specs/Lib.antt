-- What the contracts of head_reads cite beside model's definitions.
pub mod Sizes
