-- Definitions that the contracts of admission cite.
pub mod Admits
