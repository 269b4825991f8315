-- What the contracts of boundary_reads cite.
pub mod ReadAnswers
pub mod KeyHashes
pub mod WireAnswers
