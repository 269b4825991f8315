-- What the contracts of writer_record cite.
pub mod Records
