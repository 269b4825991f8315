-- One record: its numbers, and its bytes put one field after the other, over plain variables.
--     flag_byte                 a flag as a byte is 0 or 1
--     record_put                fields put one after the other are the record's bytes
use Prim.Native.Nat.{ℕ, ◌+◌, ◌≤◌}
use mathlib.Core.Bool.{Bool, true, false}
use mathlib.Core.Path.{◌≡◌}
use mathlib.Core.List.{List}
use native.Mathlib.Omega.{arith}
use lib.ListN.{length}
use Rattle.std.specs.Int.{from_bool}
use Rattle.octets.specs.Octets.{put}
use Rattle.octets.specs.Patch.{patch}
use Rattle.octets.proofs.PatchLaws.{puts-patch}
use Rattle.model.specs.declared.Writer.{Writer}
use Rattle.model.specs.WriterRecord.{writer_flags, writer_widths, writer_values, writer_bytes}

pub flag_byte : (b : Bool) → from_bool b ≤ 1
flag_byte true = omega arith
flag_byte false = omega arith

pub record_put : (w : Writer) (f : ℕ) (s t1 t2 t3 t4 t5 t6 : List ℕ) (at : ℕ) → at + 40 ≤ length s → f ≡ writer_flags w →
    t1 ≡ put 8 s at w.guid.hi → t2 ≡ put 8 t1 (at + 8) w.guid.lo → t3 ≡ put 1 t2 (at + 16) f → t4 ≡ put 7 t3 (at + 17) 0 →
    t5 ≡ put 8 t4 (at + 24) w.liveliness.lease.nanos → t6 ≡ put 8 t5 (at + 32) w.liveliness.last_assertion →
    t6 ≡ patch s at 40 (writer_bytes w)
unfolding writer_bytes
record_put w f s t1 t2 t3 t4 t5 t6 at h ef e1 e2 e3 e4 e5 e6 =
    let z : at + 0 ≡ at = omega arith in
    rw (e6, e5, e4, e3, e2, e1, ef) (rw z at (puts-patch writer_widths (writer_values w) s at 0 (omega arith) tt))
