-- Laws that the proofs of admission cite.
pub mod Tests
pub mod Admitted
pub mod Effects
pub mod Leaves
