-- What the contracts of call_ranges cite.
pub mod Lengths
