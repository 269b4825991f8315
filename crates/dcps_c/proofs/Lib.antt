-- Laws that the proofs of dcps_c cite.
pub mod Crossing
pub mod HeadReads
pub mod Tellings
