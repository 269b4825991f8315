-- Laws of a record that loses writers.

pub mod Dropping
pub mod Losing
