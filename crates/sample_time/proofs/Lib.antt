-- The laws of times, and what they are proved by.
pub mod Differences
pub mod Values
pub mod EpochLaws
