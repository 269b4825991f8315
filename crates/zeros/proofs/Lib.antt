-- Laws of zeros in bytes.
pub mod Words
