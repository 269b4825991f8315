-- What the contracts of distinct_handles cite.
pub mod Apart
