-- What the contracts of key_hash cite.
pub mod KeyHash
