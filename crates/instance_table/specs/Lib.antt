-- What the contracts of instance_table cite beside model's definitions.
pub mod Laid
pub mod TableCalls
