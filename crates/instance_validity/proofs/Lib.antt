-- Laws of the test of a record.
pub mod Nil
pub mod Rise
pub mod Valid
