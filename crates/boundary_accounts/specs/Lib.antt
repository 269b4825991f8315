-- Demand 3 at the C boundary, as a claim. docs/DEMAND3.md has it in words.
pub mod Crossings
