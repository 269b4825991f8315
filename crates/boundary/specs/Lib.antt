-- What the contracts of boundary cite.
pub mod Layouts
pub mod Parts
