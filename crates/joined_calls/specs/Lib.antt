-- What the contracts of joined_calls cite beside model's definitions.
pub mod Losses
