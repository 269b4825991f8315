-- The version of the library as one number: major · 65536 + minor · 256 + patch.
use Rattle.std.specs.Prelude.{ℕ, ◌+◌, ◌*◌}

abbrev pub major : ℕ
major = 0

abbrev pub minor : ℕ
minor = 3

abbrev pub patch : ℕ
patch = 0

abbrev pub version_number : ℕ
version_number = major * 65_536 + minor * 256 + patch
