-- What the contracts of instance_encoding cite beside model's definitions.
pub mod Parts
