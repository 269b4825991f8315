-- What the contracts of md5 cite.
pub mod Md5
pub mod Tail
pub mod Sines
