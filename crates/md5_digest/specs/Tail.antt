-- What the code keeps of a padded message beside the message itself, for the contract of a private function: `md5_of` does
-- not rest on it.
use Rattle.std.specs.Prelude.{ℕ, ◌-◌, ◌*◌, ◌/◌, List, ◌++◌, length, drop, replicate}
use Rattle.md5_digest.specs.Md5.{padded}

-- what follows the message's whole blocks: one block or two
abbrev pub behind : List ℕ → List ℕ
behind message = drop (length message / 64 * 64) (padded message)

-- that, in 128 bytes
unfoldable pub tail_of : List ℕ → List ℕ
tail_of message = behind message ++ replicate (128 - length (behind message)) 0
