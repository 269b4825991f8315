-- What the contracts of instance_reach cite beside model's definitions.
pub mod Rules
pub mod Turned
