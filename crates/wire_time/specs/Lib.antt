-- What the contracts of wire_time cite.
pub mod WireTime
