-- Laws of octets' definitions, and of its moves and scans.
pub mod Laws
pub mod Bytes
pub mod FieldLaws
pub mod BoundLaws
pub mod PatchLaws
pub mod LayLaws
pub mod ZeroLaws
pub mod Moves
pub mod Scan
