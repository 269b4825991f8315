-- What the contracts of dcps cite beside model's definitions.
pub mod Fresh
