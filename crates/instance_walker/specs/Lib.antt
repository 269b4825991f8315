-- What the contracts of instance_walker cite beside model's definitions.
pub mod Walk
