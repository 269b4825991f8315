-- The writers of a participant are those of its prefix, and stand together in a table that rises, over plain variables.
--     first-num                        the least GUID of a prefix
--     other_prefix                     an assertion leaves a writer of another prefix as it is
--     keys_are, get-map                the keys of the table are those of its writers
--     lower_others, behind-others      before the lower bound of the prefix, and behind the first of another, all have another
use Prim.Native.Nat.{ℕ, zero, suc, ◌+◌, ◌*◌, ◌/◌, ◌≤◌, ◌<◌, ◌^◌}
use mathlib.Core.Bool.{true, false, and-false}
use mathlib.Core.Logic.{⊎_elim}
use mathlib.Core.Path.{◌≡◌, refl, sym, ap, ◌∙◌}
use mathlib.Core.List.{List, [], ◌∷◌, map}
use native.Mathlib.Nat.{add-mul, mul_assoc, eq-or-lt_of_le}
use native.Mathlib.Omega.{arith}
use borrow.Author.Tests.{eqb-false, ne_eqb}
use lib.ListN.{length, take, drop, get_or, length-map, length-drop}
use lib.Seq.{length-take-le, get_or-take, get_or-drop}
use Rattle.octets.specs.Lay.{All}
use Rattle.model.specs.declared.Guid.{Guid}
use Rattle.model.specs.declared.Writer.{Writer}
use Rattle.model.specs.Guids.{num, prefix, same_prefix}
use Rattle.model.specs.State.{writers_in, writer_key}
use Rattle.model.specs.Tables.{rising}
use Rattle.model.specs.Writers.{Assertion, covers, asserted, departed}
use Rattle.model.specs.WriterRecord.{writer_of}
use Rattle.guid.proofs.Laws.{prefix-digits}
use Rattle.tables.specs.Found.{lower_bound}
use Rattle.tables.specs.Keys.{keys, rising as rising_keys}
use Rattle.tables.proofs.FoundLaws.{lower_le, lower_before, lower_at}
use Rattle.tables.proofs.KeyLaws.{rising_pairs}
use Rattle.tables.proofs.RecordLaws.{keys_read, rising-records}
use Rattle.writer_pass.proofs.Picks.{all_from}

-- ---- prefixes

digits-times : (m h l : ℕ) → (h * m + l) * m ≡ h * (m * m) + l * m
digits-times m h l = rw (add-mul (h * m) l m, mul_assoc h m m)

pub first-num : (g : Guid) → num record { hi = g.hi; lo = g.lo / 2 ^ 32 * 2 ^ 32 } ≡ prefix g * 2 ^ 32
unfolding num
first-num g = sym (ap (λ (n : ℕ). n * 2 ^ 32) (prefix-digits g) ∙ digits-times (2 ^ 32) g.hi (g.lo / 2 ^ 32))

prefix-is : (g : Guid) → prefix g ≡ num g / 2 ^ 32
unfolding prefix
prefix-is g = refl

pub other_prefix : (a : Assertion) (w : Writer) → same_prefix w.guid a.guid ≡ false → asserted a w ≡ w
unfolding asserted covers
other_prefix a w h =
    let n = ne_eqb (num w.guid) (num a.guid) (λ e.
    eqb-false (prefix w.guid) (prefix a.guid) h (prefix-is w.guid ∙ ap (λ (k : ℕ). k / 2 ^ 32) e ∙ sym (prefix-is a.guid))) in
    rw (n, h, and-false a.named)

-- ---- the keys

pub keys_are : (n : ℕ) (t : List ℕ) → keys 40 n t ≡ map writer_key (writers_in n t)
unfolding writer_of
keys_are n t = keys_read writer_of 40 writer_key (λ r. refl) (omega arith) n t

pub get-map : (ws : List Writer) (j : ℕ) (d : Writer) → j < length ws → get_or (map writer_key ws) j 0 ≡ writer_key (get_or ws j d)
get-map [] j d h = absurd (omega arith)
get-map (w ∷ ws) zero d h = refl
get-map (w ∷ ws) (suc j) d h = get-map ws j d (omega arith)

-- ---- the range of a prefix

abbrev pub Other : Guid → Writer → Type 0
Other g w = same_prefix w.guid g ≡ false

module _ (g : Guid) (ws : List Writer) (from : ℕ) (r : rising writer_key ws ≡ true) (at : from ≡ lower_bound (map writer_key ws) (prefix g * 2 ^ 32)) where
  abbrev ks : List ℕ
  ks = map writer_key ws

  rises : rising_keys ks ≡ true
  rises = rising-records writer_key ws ∙ r

  pub lower_within : from ≤ length ws
  lower_within = omega (arith, at, lower_le ks (prefix g * 2 ^ 32), length-map ws writer_key)

  pub lower_others : All (Other g) (take from ws)
  lower_others =
      all_from (Other g) (departed g) (take from ws)
      (λ j l.
      let n : length (take from ws) ≡ from = length-take-le from ws lower_within in
      rw (get_or-take from ws j (departed g) (omega arith))
      (ne_eqb (prefix (get_or ws j (departed g)).guid) (prefix g) (λ e.
      omega (
        arith,
        prefix-is (get_or ws j (departed g)).guid,
        lower_before ks (prefix g * 2 ^ 32) j (omega (arith, at)),
        get-map ws j (departed g) (omega (arith, lower_within)),
      ))))

  -- from the lower bound on no key is less than the prefix's first
  at_least : (i : ℕ) → from ≤ i → i < length ws → prefix g * 2 ^ 32 ≤ get_or ks i 0
  at_least i h l =
      let n : length ks ≡ length ws = length-map ws writer_key in
      let first : prefix g * 2 ^ 32 ≤ get_or ks from 0 = rw at (lower_at ks (prefix g * 2 ^ 32) (rw (← at) (omega arith))) in
      ⊎_elim (λ e. rw (← e) first) (λ q. omega (arith, rising_pairs ks rises from i q (omega arith))) (eq-or-lt_of_le h)

  -- nor than one before it
  not-less : (i j : ℕ) → i ≤ j → j < length ws → get_or ks i 0 ≤ get_or ks j 0
  not-less i j h l =
      let n : length ks ≡ length ws = length-map ws writer_key in
      ⊎_elim (λ e. rw e (omega arith)) (λ q. omega (arith, rising_pairs ks rises i j q (omega arith))) (eq-or-lt_of_le h)

  pub behind-others : (i : ℕ) (w : Writer) → from ≤ i → i < length ws → w ≡ get_or ws i w → Other g w → All (Other g) (drop i ws)
  behind-others i w h l e o =
      all_from (Other g) w (drop i ws)
      (λ j m.
      let k : i + j < length ws = omega (arith, length-drop i ws) in
      let v : Writer = get_or ws (i + j) w in
      rw (get_or-drop i ws j w)
      (ne_eqb (prefix v.guid) (prefix g) (λ q.
      eqb-false (prefix w.guid) (prefix g) o
      (omega (
        arith,
        q,
        prefix-is v.guid,
        prefix-is w.guid,
        at_least i h l,
        not-less i (i + j) (omega arith) k,
        get-map ws (i + j) w k,
        get-map ws i w l ∙ ap writer_key (sym e),
      )))))
