-- Laws that the proofs of the calls on head and buffers cite.
pub mod Chain
pub mod Graft
pub mod InstanceRange
pub mod Whole
pub mod Admit
