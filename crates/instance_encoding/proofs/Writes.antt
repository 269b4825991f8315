-- An instance's record written part by part.
--     written_to                         the first i GUIDs of a writer set are written
--     written_start, written-turn, written-end, length-written      the loop over them
--     written                           fields, holder and set make the record
use Prim.Native.Nat.{ℕ, ◌+◌, ◌*◌, ◌≤◌, ◌<◌}
use mathlib.Core.Path.{◌≡◌, sym, ap, ◌∙◌}
use mathlib.Core.List.{List, [], ◌∷◌, ◌++◌, append_assoc, append-nil}
use native.Mathlib.Numerals.{add-one}
use native.Mathlib.Omega.{arith}
use lib.ListN.{length, take, drop, get_or, length-append}
use lib.Seq.{take-suc, take_all, drop-length, length-take-le, paste}
use Rattle.octets.specs.Lay.{rows}
use Rattle.octets.proofs.LayLaws.{rows_append}
use Rattle.octets.specs.Octets.{put}
use Rattle.octets.specs.Patch.{patch, fields}
use Rattle.octets.proofs.PatchLaws.{patch-patch, patch-nil, length-patch, puts-patch, length_fields}
use Rattle.octets.specs.Fields.{puts}
use Rattle.model.specs.declared.Guid.{Guid}
use Rattle.model.specs.declared.Instance.{Instance}
use Rattle.model.specs.Guids.{nil, guid_bytes, guids_bytes}
use Rattle.model.specs.InstanceRecord.{instance_widths, instance_values, instance_bytes}
use Rattle.model.proofs.GuidLaws.{length_guids}
use Rattle.guid.proofs.Laws.{guid-patch}

-- the first i GUIDs are written
abbrev pub written_to : List ℕ → List Guid → ℕ → List ℕ
written_to s gs i = patch s 256 (i * 16) (guids_bytes (take i gs))

pub written_start : (s : List ℕ) (gs : List Guid) → s ≡ written_to s gs 0
unfolding rows
written_start s gs = patch-nil s 256

module _ (s : List ℕ) (gs : List Guid) (size : length s ≡ 512) (many : length gs ≡ 16) where
  length-first : (i : ℕ) → i ≤ 16 → length (guids_bytes (take i gs)) ≡ i * 16
  length-first i h = length_guids (take i gs) ∙ ap (λ (n : ℕ). n * 16) (length-take-le i gs (omega arith))

  pub length-written : (i : ℕ) → i ≤ 16 → length (written_to s gs i) ≡ 512
  length-written i h = length-patch s 256 (i * 16) (guids_bytes (take i gs)) (omega arith) (length-first i h) ∙ size

  one_more : (i : ℕ) → i < 16 → guids_bytes (take (i + 1) gs) ≡ guids_bytes (take i gs) ++ guid_bytes (get_or gs i nil)
  unfolding rows
  one_more i h =
      rw (add-one, take-suc gs i nil (omega arith), rows_append guid_bytes (take i gs) (get_or gs i nil ∷ []), append-nil (guid_bytes (get_or gs i nil)))

  pub written-turn : (i : ℕ) → i < 16 →
      put 8 (put 8 (written_to s gs i) (256 + i * 16) (get_or gs i nil).hi) (256 + i * 16 + 8) (get_or gs i nil).lo ≡ written_to s gs (i + 1)
  written-turn i h =
      let n : length (written_to s gs i) ≡ 512 = length-written i (omega arith) in
      let e : i * 16 + 16 ≡ (i + 1) * 16 = omega arith in
      guid-patch (written_to s gs i) (256 + i * 16) (get_or gs i nil) (omega arith)
      ∙ patch-patch s 256 (i * 16) 16 (guids_bytes (take i gs)) (guid_bytes (get_or gs i nil)) (omega arith) (length-first i (omega arith))
      ∙ rw (e, one_more i h)

  pub written-end : written_to s gs 16 ≡ patch s 256 256 (guids_bytes gs)
  written-end = rw (take_all 16 gs (omega arith))

-- three parts written one after the other over all of s
parts : (s f b g : List ℕ) → length s ≡ 512 → length f ≡ 112 → length b ≡ 144 →
    patch (paste (patch s 0 112 f) 112 b 144) 256 256 g ≡ f ++ (b ++ g)
parts s f b g size first second =
    let p : paste (patch s 0 112 f) 112 b 144 ≡ patch (patch s 0 112 f) 112 144 b =
    rw (take_all 144 b (omega arith)) (append_assoc (take 112 (patch s 0 112 f)) b (drop 256 (patch s 0 112 f))) in
    let q : patch (patch s 0 112 f) 112 144 b ≡ patch s 0 256 (f ++ b) = patch-patch s 0 112 144 f b (omega arith) first in
    let r : patch (patch s 0 256 (f ++ b)) 256 256 g ≡ patch s 0 512 ((f ++ b) ++ g) =
    patch-patch s 0 256 256 (f ++ b) g (omega arith) (omega (arith, length-append f b)) in
    let z : drop 512 s ≡ [] = ap (λ (k : ℕ). drop k s) (sym size) ∙ drop-length s in
    ap (λ (l : List ℕ). patch l 256 256 g) (p ∙ q) ∙ r ∙ rw z (append-nil ((f ++ b) ++ g) ∙ append_assoc f b g)

module _ (s : List ℕ) (x : Instance) (size : length s ≡ 512) (bytes : length x.state.holder.bytes ≡ 144) where
  pub written : patch (paste (puts instance_widths (instance_values x) s 0 0) 112 x.state.holder.bytes 144) 256 256 (guids_bytes x.state.writers.items)
      ≡ instance_bytes x
  unfolding instance_bytes
  written =
      let f : List ℕ = fields instance_widths (instance_values x) in
      let b : List ℕ = x.state.holder.bytes in
      let g : List ℕ = guids_bytes x.state.writers.items in
      ap (λ (l : List ℕ). patch (paste l 112 b 144) 256 256 g) (puts-patch instance_widths (instance_values x) s 0 0 (omega arith) tt)
      ∙ parts s f b g size (length_fields instance_widths (instance_values x) tt) bytes
