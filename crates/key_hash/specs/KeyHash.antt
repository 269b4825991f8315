-- Document 02, ticket 2: the KeyHash of DDSI-RTPS 2.5 (9.6.4.8), from a serialized key and the largest size that the caller
-- states for its type.
use Rattle.std.specs.Prelude.{ℕ, ◌-◌, cond, List, ◌++◌, eqb, leb, ltb, length, replicate}
use Rattle.md5_digest.specs.Md5.{md5_of}
use Rattle.key_hash.specs.declared.KeyHashed.{KeyHashed}

-- the largest size that may be stated
abbrev pub largest_stated : ℕ
largest_stated = 4096

-- 15 is tested first: a stated size above 4,096; then 14: a key longer than the stated size
unfoldable pub refusal : List ℕ → ℕ → ℕ
refusal key largest = cond (ltb largest_stated largest) 15 (cond (ltb largest (length key)) 14 0)

-- the key, padded with zeros to 16 bytes
abbrev pub padded_key : List ℕ → List ℕ
padded_key key = key ++ replicate (16 - length key) 0

-- the stated size decides, whatever the key's own length is
unfoldable pub padded_or_hashed : List ℕ → ℕ → List ℕ
padded_or_hashed key largest = cond (leb largest 16) (padded_key key) (md5_of key)

abbrev pub accepted : List ℕ → KeyHashed
accepted hash = record { number = 0; hash = hash }

-- a refusal: its number, and zeros
abbrev pub refused : ℕ → KeyHashed
refused number = record { number = number; hash = replicate 16 0 }

-- the KeyHash, or the refusal
unfoldable pub key_hash_of : List ℕ → ℕ → KeyHashed
key_hash_of key largest = cond (eqb (refusal key largest) 0) (accepted (padded_or_hashed key largest)) (refused (refusal key largest))
