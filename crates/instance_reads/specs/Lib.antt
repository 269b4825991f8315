-- What the contracts of instance_reads cite beside model's definitions.
pub mod HolderPlaces
pub mod Looked
