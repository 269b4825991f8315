-- The laws of writer sets.
pub mod SetLaws
pub mod PlaceLaws
