-- What the contracts of the writer set cite beside model's Sets.
pub mod Places
