-- Laws of a record that is written.
pub mod Writes
