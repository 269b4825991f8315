-- What few bytes of a record tell of its owner and its writers.
--     owner-other, owner-there               a test of the owner's GUID, and of the flags then
--     prefix-other, prefix-there             a test of its participant
--     listed_none, listed_by                 without an owner, and what the search says of one
--     apart_high, apart_none, apart_low      the first writer is above a span, there is none, the last is below it
use Prim.Native.Nat.{ℕ, zero, suc, ◌+◌, ◌-◌, ◌*◌, ◌%◌, ◌≤◌, ◌<◌}
use Rattle.std.specs.Prelude.{Result, Ok, Err, is_ok}
use mathlib.Core.Bool.{true, false, and-false, and-true}
use mathlib.Core.List.{List, [], ◌∷◌, map}
use mathlib.Core.Logic.{inl, inr}
use mathlib.Core.Path.{◌≡◌, refl, sym, ◌∙◌}
use native.Mathlib.Omega.{arith}
use borrow.Author.Tests.{ltb-true}
use lib.ListN.{length, get_or, drop}
use Rattle.octets.specs.Lay.{All}
use Rattle.model.specs.declared.Guid.{Guid}
use Rattle.model.specs.Guids.{num, less, same, same_prefix, guid_at, guid_of, guids_in, nil}
use Rattle.model.specs.InstanceRecord.{flag, flags_at, instance_of}
use Rattle.model.specs.Instances.{owns, owns_prefix, writers_in}
use Rattle.model.specs.Layout.{read_rows}
use Rattle.model.specs.Sets.{has}
use Rattle.model.specs.Tables.{find, is_some, rising, above as above_all}
use Rattle.model.proofs.RowLaws.{get_read, length_read, take_read}
use Rattle.model.proofs.Tests.{both, split}
use Rattle.tables.specs.Found.{found_in}
use Rattle.tables.specs.Keys.{keys}
use Rattle.tables.proofs.Puts.{above_at}
use Rattle.tables.proofs.RecordLaws.{find_at, find_none, keyed, keys_read}
use Rattle.instance_decoding.proofs.Rows.{guid-in}
use Rattle.instance_edits.specs.declared.Span.{Span}
use Rattle.instance_edits.specs.Edits.{Formed}
use Rattle.instance_edits.specs.Losses.{owned_by}
use Rattle.instance_edits.specs.Spans.{AllOutside}
use Rattle.writer_set_bytes.proofs.SideBySide.{From, from_first}

-- ---- the owner, by a test of its GUID and the flags

module _ (r : List ℕ) (g a : Guid) (is : a ≡ guid_at r 92) where
  pub owner-other : same a g ≡ false → false ≡ owns g (instance_of r).state.owner
  unfolding instance_of
  owner-other e = let q : same (guid_at r 92) g ≡ false = rw is at e in rw q (sym (and-false (flag 128 (flags_at r))))

  pub owner-there : same a g ≡ true → flag 128 (flags_at r) ≡ owns g (instance_of r).state.owner
  unfolding instance_of
  owner-there e = let q : same (guid_at r 92) g ≡ true = rw is at e in rw q (sym (and-true (flag 128 (flags_at r))))

  pub prefix-other : same_prefix a g ≡ false → false ≡ owns_prefix g (instance_of r).state.owner
  unfolding instance_of
  prefix-other e = let q : same_prefix (guid_at r 92) g ≡ false = rw is at e in rw q (sym (and-false (flag 128 (flags_at r))))

  pub prefix-there : same_prefix a g ≡ true → flag 128 (flags_at r) ≡ owns_prefix g (instance_of r).state.owner
  unfolding instance_of
  prefix-there e = let q : same_prefix (guid_at r 92) g ≡ true = rw is at e in rw q (sym (and-true (flag 128 (flags_at r))))

-- ---- the owner in a list

listed-keys : (n : ℕ) (t : List ℕ) → keys 16 n t ≡ map num (guids_in n t)
listed-keys n t = keys_read guid_of 16 num (λ s. refl) (omega arith) n t

has-find : (g : Guid) (s : List Guid) → has g s ≡ is_some (find (keyed num (num g)) s)
unfolding has find
has-find g [] = refl
has-find g (x ∷ xs) = split (same x g) (λ e. rw e) (λ e. rw e (has-find g xs))

module _ (r : List ℕ) (n : ℕ) (t : List ℕ) (i : ℕ) where
  pub listed_none : (flag 128 (flags_at r) ≡ true → ⊥) → false ≡ owned_by (guids_in n t) (instance_of r).state.owner
  unfolding instance_of
  listed_none h = split (flag 128 (flags_at r)) (λ e. absurd (h e)) (λ e. rw e)

  module _ (h : flag 128 (flags_at r) ≡ true) where
    listed_at : found_in (keys 16 n t) (num (guid_at r 92)) ≡ Ok i → true ≡ owned_by (guids_in n t) (instance_of r).state.owner
    unfolding instance_of
    listed_at f =
        rw (h, has-find (guid_at r 92) (guids_in n t), find_at num (guids_in n t) (num (guid_at r 92)) i (rw (listed-keys n t) at f) nil)

    listed-missing : rising num (guids_in n t) ≡ true → found_in (keys 16 n t) (num (guid_at r 92)) ≡ Err i →
        false ≡ owned_by (guids_in n t) (instance_of r).state.owner
    unfolding instance_of
    listed-missing k f =
        rw (h, has-find (guid_at r 92) (guids_in n t), find_none num (guids_in n t) (num (guid_at r 92)) i k (rw (listed-keys n t) at f))

-- whatever is found
pub listed_by : (r : List ℕ) (n : ℕ) (t : List ℕ) → flag 128 (flags_at r) ≡ true → rising num (guids_in n t) ≡ true → (f : Result ℕ ℕ) →
    found_in (keys 16 n t) (num (guid_at r 92)) ≡ f → is_ok f ≡ owned_by (guids_in n t) (instance_of r).state.owner
listed_by r n t h k (Ok i) e = listed_at r n t i h e
listed_by r n t h k (Err i) e = listed-missing r n t i h k e

-- ---- the writers beside a span

above-first : (m : ℕ) (s : List Guid) → rising num s ≡ true → (0 < length s → m < num (get_or s 0 nil)) → All (λ (g : Guid). m < num g) s
above-first m [] h l = tt
above-first m (x ∷ xs) h l = from_more m (x ∷ xs) (from_first x xs h) (l (omega arith))
  where
    from_more : (m : ℕ) (s : List Guid) → From (num x) s → m < num x → All (λ (g : Guid). m < num g) s
    from_more m [] f k = tt
    from_more m (y ∷ ys) f k = (omega (arith, f.0), from_more m ys f.1 k)

below_last : (m : ℕ) (s : List Guid) (p : ℕ) → rising num s ≡ true → length s ≡ suc p → num (get_or s p nil) < m → All (λ (g : Guid). num g < m) s
unfolding rising
below_last m [] p h e l = tt
below_last m (x ∷ []) zero h e l = (l, tt)
below_last m (x ∷ []) (suc p) h e l = absurd (omega arith)
below_last m (x ∷ y ∷ ys) zero h e l = absurd (omega arith)
below_last m (x ∷ y ∷ ys) (suc p) h e l =
    let b = both (above_all num (num x) (y ∷ ys)) (rising num (y ∷ ys)) h in (
      omega (arith, above_at num (num x) (y ∷ ys) b.0 p nil (omega arith)),
      below_last m (y ∷ ys) p b.1 (omega arith) l,
    )

-- writer i of a record
writer-at : (r : List ℕ) (n i : ℕ) → i < n → get_or (guids_in n (drop 256 r)) i nil ≡ guid_at r (256 + i * 16)
writer-at r n i h = get_read guid_of 16 n (drop 256 r) i nil h ∙ guid-in r i

pub few-writers : (r : List ℕ) → Formed r → flags_at r % 32 ≤ 16
unfolding instance_of
few-writers r f = f.sound.few

writers_are : (r : List ℕ) → Formed r → writers_in (instance_of r).state ≡ guids_in (flags_at r % 32) (drop 256 r)
unfolding instance_of
writers_are r f = take_read guid_of 16 (flags_at r % 32) 16 (drop 256 r) (few-writers r f)

module _ (r : List ℕ) (formed : Formed r) (w : Span) where
  abbrev n : ℕ
  n = flags_at r % 32

  writers_rise : rising num (guids_in n (drop 256 r)) ≡ true
  writers_rise = rw (← writers_are r formed) formed.rises

  pub apart_high : less w.high (guid_at r 256) ≡ true → AllOutside w (writers_in (instance_of r).state)
  apart_high h =
      rw (writers_are r formed)
      (inr (above-first (num w.high) (guids_in n (drop 256 r)) writers_rise
      (λ l. rw (writer-at r n 0 (omega (arith, length_read guid_of 16 n (drop 256 r)))) (ltb-true (num w.high) (num (guid_at r 256)) h))))

  pub apart_none : n ≡ 0 → AllOutside w (writers_in (instance_of r).state)
  unfolding read_rows
  apart_none e = rw (writers_are r formed, e) (inl tt)

  pub apart_low : (n ≡ 0 → ⊥) → less (guid_at r (240 + n * 16)) w.low ≡ true → AllOutside w (writers_in (instance_of r).state)
  apart_low z h =
      let o : 256 + (n - 1) * 16 ≡ 240 + n * 16 = omega arith in
      rw (writers_are r formed)
      (inl (below_last (num w.low) (guids_in n (drop 256 r)) (n - 1) writers_rise (length_read guid_of 16 n (drop 256 r) ∙ omega arith)
      (rw (writer-at r n (n - 1) (omega arith), o) (ltb-true (num (guid_at r (240 + n * 16))) (num w.low) h))))
