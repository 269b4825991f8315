-- What the contracts of instance_decoding cite beside model's definitions.
pub mod Parts
