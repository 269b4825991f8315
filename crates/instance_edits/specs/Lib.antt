-- What the contracts of instance_edits cite beside model's definitions.
pub mod Losses
pub mod Edits
pub mod Spans
