-- The span of a list that rises, from its first GUID to its last.
--     span_none, span_all     a list with none; one with some
use Prim.Native.Nat.{ℕ, zero, suc, ◌-◌, ◌*◌, ◌/◌, ◌≤◌, ◌<◌}
use mathlib.Core.Bool.{true}
use mathlib.Core.List.{List, [], ◌∷◌}
use mathlib.Core.Path.{◌≡◌, sym, ap, ◌∙◌}
use native.Mathlib.Omega.{arith}
use lib.ListN.{length, get_or}
use Rattle.octets.specs.Lay.{All}
use Rattle.model.specs.declared.Guid.{Guid}
use Rattle.model.specs.Guids.{num, guid_at, guid_of, guids_in}
use Rattle.model.specs.Layout.{read_rows}
use Rattle.model.specs.Tables.{above, rising}
use Rattle.model.proofs.GuidLaws.{guid-part}
use Rattle.model.proofs.RowLaws.{length_read, get_read}
use Rattle.model.proofs.Tests.{both}
use Rattle.tables.proofs.Puts.{above_at}
use Rattle.instance_edits.specs.declared.Span.{Span}
use Rattle.instance_loss.specs.Lost.{Within}
use Rattle.writer_set_bytes.specs.Lists.{gones_in, Listed}
use Rattle.writer_set_bytes.proofs.SideBySide.{From, from_first}

pub span_none : (w : Span) (gone : List ℕ) → length gone / 16 ≡ 0 → All (Within w) (gones_in gone)
unfolding read_rows
span_none w gone e = rw e tt

-- the last of a list that rises is its greatest
to_last : (gs : List Guid) (n : ℕ) (d : Guid) → rising num gs ≡ true → length gs ≡ suc n → All (λ (g : Guid). num g ≤ num (get_or gs n d)) gs
unfolding rising
to_last [] n d r e = tt
to_last (g ∷ []) zero d r e = (omega arith, tt)
to_last (g ∷ []) (suc n) d r e = absurd (omega arith)
to_last (g ∷ (h ∷ gs)) zero d r e = absurd (omega arith)
to_last (g ∷ (h ∷ gs)) (suc n) d r e =
    let p = both (above num (num g) (h ∷ gs)) (rising num (h ∷ gs)) r in
    (omega (arith, above_at num (num g) (h ∷ gs) p.0 n d (omega (arith, e))), to_last (h ∷ gs) n d p.1 (omega (arith, e)))

both_ways : (a b : ℕ) (gs : List Guid) → All (λ (g : Guid). a ≤ num g) gs → All (λ (g : Guid). num g ≤ b) gs → All (λ (g : Guid). (a ≤ num g) × (num g ≤ b)) gs
both_ways a b [] f h = tt
both_ways a b (g ∷ gs) f h = ((f.0, h.0), both_ways a b gs f.1 h.1)

from-head : (gs : List Guid) (d : Guid) → rising num gs ≡ true → From (num (get_or gs 0 d)) gs
from-head [] d r = tt
from-head (g ∷ gs) d r = from_first g gs r

guid-at : (n : ℕ) (gone : List ℕ) (i : ℕ) (d : Guid) → i < n → get_or (guids_in n gone) i d ≡ guid_at gone (i * 16)
guid-at n gone i d h = get_read guid_of 16 n gone i d h ∙ guid-part 16 (i * 16) gone (omega arith)

pub span_all : (gone : List ℕ) (low high : Guid) → (length gone / 16 ≡ 0 → ⊥) → Listed gone → low ≡ guid_at gone 0 → high ≡ guid_at gone (length gone / 16 * 16 - 16) →
    All (Within record { low = low; high = high }) (gones_in gone)
span_all gone low high some l a b =
    let n : ℕ = length gone / 16 in
    let pos : 0 < n = omega (arith, some) in
    let m : n * 16 - 16 ≡ (n - 1) * 16 = omega arith in
    let first : get_or (guids_in n gone) 0 low ≡ low = guid-at n gone 0 low pos ∙ sym a in
    let last : get_or (guids_in n gone) (n - 1) low ≡ high = guid-at n gone (n - 1) low (omega (arith, pos)) ∙ ap (guid_at gone) (sym m) ∙ sym b in
    both_ways (num low) (num high) (gones_in gone) (rw first at (from-head (guids_in n gone) low l.rises))
    (rw last at (to_last (guids_in n gone) (n - 1) low l.rises (omega (arith, pos, length_read guid_of 16 n gone))))
