-- What the contracts of writer_set_bytes cite beside model's definitions.
pub mod Lists
pub mod Others
pub mod Walks
