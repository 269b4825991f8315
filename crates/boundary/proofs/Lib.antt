-- Laws that the proofs of boundary cite, and those of a head and its bytes.
pub mod HeadLaws
pub mod Read
pub mod Written
