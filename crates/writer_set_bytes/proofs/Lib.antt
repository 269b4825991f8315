-- Laws of sets without the GUIDs of a list.

pub mod SideBySide
pub mod WalkLaws
pub mod OneOut
pub mod Starts
pub mod Guesses
