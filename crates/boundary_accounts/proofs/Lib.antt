-- The proof of demand 3 at the C boundary.
pub mod Answers
pub mod Heads
pub mod Crossing
