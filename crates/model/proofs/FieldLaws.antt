-- Fields at the front of a list of bytes: laid out and read back, both ways.
--     reads_front     what was laid out is read back
--     fields-reads    what was read is laid out as it was
use mathlib.Core.Path.{◌≡◌, sym, ap, ◌∙◌}
use mathlib.Core.List.{List, [], ◌∷◌, ◌++◌}
use Prim.Native.Nat.{ℕ, ◌+◌, ◌≤◌}
use native.Mathlib.Omega.{arith}
use lib.ListN.{length, take, drop, length-append}
use lib.Seq.{take_at, drop_at}
use Rattle.octets.specs.Fields.{reads, puts, total, Fit}
use Rattle.octets.proofs.FieldLaws.{reads-puts}
use Rattle.octets.specs.Bounds.{Bytes}
use Rattle.octets.proofs.BoundLaws.{puts-reads}
use Rattle.octets.specs.Patch.{fields, Same}
use Rattle.octets.proofs.PatchLaws.{length_fields, puts-patch}

-- values that fit are as many as the fields
pub fit_same : (ks vs : List ℕ) → Fit ks vs → Same ks vs
fit_same [] [] f = tt
fit_same [] (v ∷ vs) f = absurd f
fit_same (k ∷ ks) [] f = absurd f
fit_same (k ∷ ks) (v ∷ vs) f = fit_same ks vs f.1

pub reads_front : (ks vs rest : List ℕ) → Fit ks vs → reads ks (fields ks vs ++ rest) 0 0 ≡ vs
reads_front ks vs rest f =
    let s : List ℕ = fields ks vs ++ rest in
    let n : length (fields ks vs) ≡ total ks = length_fields ks vs (fit_same ks vs f) in
    let m : 0 + 0 + total ks ≤ length s = omega (arith, length-append (fields ks vs) rest) in
    let z : 0 + total ks ≡ total ks = omega arith in
    let e : puts ks vs s 0 0 ≡ s =
    puts-patch ks vs s 0 0 m (fit_same ks vs f) ∙ rw (z, drop_at (fields ks vs) rest (total ks) n) in
    rw e at (reads-puts ks vs s 0 0 m f)

-- as many values as fields are read
pub same_reads : (ks s : List ℕ) (at o : ℕ) → Same ks (reads ks s at o)
same_reads [] s at o = tt
same_reads (k ∷ ks) s at o = same_reads ks s at (o + k)

pub fields-reads : (ks s : List ℕ) → Bytes s → total ks ≤ length s → fields ks (reads ks s 0 0) ≡ take (total ks) s
fields-reads ks s b h =
    let f : List ℕ = fields ks (reads ks s 0 0) in
    let n : length f ≡ total ks = length_fields ks (reads ks s 0 0) (same_reads ks s 0 0) in
    let z : 0 + total ks ≡ total ks = omega arith in
    let e : s ≡ f ++ drop (total ks) s =
    sym (puts-reads ks s 0 0 b) ∙ puts-patch ks (reads ks s 0 0) s 0 0 (omega arith) (same_reads ks s 0 0) ∙ rw z in
    sym (take_at f (drop (total ks) s) (total ks) n) ∙ ap (take (total ks)) (sym e)
