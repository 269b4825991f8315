-- The laws of wire time.
pub mod WireLaws
