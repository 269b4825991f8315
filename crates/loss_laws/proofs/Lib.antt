-- Codes 49 to 51 as calls one after the other.
pub mod Losses
