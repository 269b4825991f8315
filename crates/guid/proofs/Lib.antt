-- Laws of keys and GUIDs as numbers.
pub mod Digits
pub mod Laws
