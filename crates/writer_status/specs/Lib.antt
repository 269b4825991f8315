-- What the contracts of writer_status cite.
pub mod Status
