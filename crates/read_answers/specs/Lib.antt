-- What the contracts of the reads and of the C boundary cite.
pub mod Cases
