-- What the contracts of instance_pass cite beside model's definitions.
pub mod Acts
pub mod Steps
pub mod Passes
pub mod Purges
pub mod EveryCalls
