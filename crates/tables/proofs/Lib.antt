-- Laws of a table's keys, places and records, and of records put in, changed and taken out.
pub mod KeyLaws
pub mod FoundLaws
pub mod GapLaws
pub mod RecordLaws
pub mod RecordTests
pub mod Search
pub mod Finds
pub mod Sifts
pub mod Puts
pub mod Passes
pub mod Keeps
