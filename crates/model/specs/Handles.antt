-- Section 1: handles. 0 is nil.
use Rattle.std.specs.Prelude.{ℕ, ◌+◌, ◌*◌, ◌%◌, ◌^◌, cond, List, [], ◌∷◌, eqb}
use Rattle.std.specs.Int.Bits.{bit_xor}
use Rattle.model.specs.declared.Allocated.{Allocated}
use Rattle.model.specs.declared.Guid.{Guid}
use Rattle.model.specs.declared.InstanceHandle.{InstanceHandle}
use Rattle.model.specs.Guids.{guid_bytes}

abbrev pub handle : ℕ → InstanceHandle
handle n = record { 0 = n }

-- n, with 0 replaced by 1
abbrev pub not_nil : ℕ → ℕ
not_nil n = cond (eqb n 0) 1 n

-- the allocator's step: the counter is given and moves on by one, modulo 2^64; at 0, which is skipped, 1 is given and the
-- counter is 2
unfoldable pub allocated : ℕ → Allocated
allocated counter = record { handle = handle (not_nil counter); counter = (not_nil counter + 1) % 2 ^ 64 }

-- 64-bit FNV-1a: xor with the byte, then times the prime, modulo 2^64
unfoldable pub fnv_step : ℕ → ℕ → ℕ
fnv_step hash byte = bit_xor byte hash * 0x100_0000_01b3 % 2 ^ 64

unfoldable pub fnv_from : ℕ → List ℕ → ℕ
fnv_from hash [] = hash
fnv_from hash (byte ∷ bytes) = fnv_from (fnv_step hash byte) bytes

abbrev pub fnv : List ℕ → ℕ
fnv bytes = fnv_from 0xcbf2_9ce4_8422_2325 bytes

-- `from_guid`: the hash of the 16 bytes, 0 replaced by 1
unfoldable pub from_guid : Guid → InstanceHandle
from_guid g = handle (not_nil (fnv (guid_bytes g)))
