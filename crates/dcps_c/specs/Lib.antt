-- What the contracts of dcps_c cite beside model's and boundary's definitions.
pub mod Boundary
pub mod Reads
pub mod Version
