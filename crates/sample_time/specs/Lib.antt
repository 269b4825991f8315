-- What the laws of sample_time are said with.
pub mod Clamped
