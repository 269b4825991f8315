-- An assertion on the writers of its participant, while the loop runs, over plain variables.
--     raise_told                     the tally once one writer is alive
--     Asserting                      table and tally at the loop's head; asserting_start, asserting_there, asserting_turn,
--                                    asserting_left and asserting_end are its laws
--     part_touched, part-kept        the assertion at one record, from what its callees ensure
--     moves-not-alive                who moves to the alive ones was not among them
--     tally-moved, tally-stays       the tally of one record, where its writer moves and where not
use Prim.Native.Nat.{ℕ, suc, ◌+◌, ◌-◌, ◌*◌, ◌≤◌, ◌<◌, ◌^◌}
use mathlib.Core.Bool.{Bool, true, false, not, ◌&&◌, cond}
use mathlib.Core.Path.{◌≡◌, refl, sym, ap, ◌∙◌}
use mathlib.Core.List.{List, [], ◌∷◌, ◌++◌, map, append-nil}
use native.Mathlib.Omega.{arith}
use lib.ListN.{length, take, drop, get_or, take-append-drop, drop_of_length-le}
use lib.Seq.{length-take-le}
use Rattle.octets.specs.Bounds.{Bytes}
use Rattle.octets.specs.Lay.{lay, All}
use Rattle.octets.specs.Patch.{patch}
use Rattle.model.specs.declared.Guid.{Guid}
use Rattle.std.specs.Prelude.{Some}
use Rattle.model.specs.declared.Writer.{Writer}
use Rattle.model.specs.declared.WriterState.{WriterState}
use Rattle.model.specs.declared.WriterState.TheVariants.{Unasserted, Alive, NotAlive, Departed}
use Rattle.model.specs.Guids.{num, prefix}
use Rattle.model.specs.InstanceRecord.{bit}
use Rattle.model.specs.State.{class_of, is_alive_class, is_not_alive_class, counts_alive, counts_not_alive, alive_count, not_alive_count, writers_in, writer_key, LastWriter}
use Rattle.model.specs.Tables.{pick, rising}
use Rattle.model.specs.Writers.{asserted, with_state, guid_in, last_after}
use Rattle.model.specs.WriterRecord.{writer_of, writer_bytes}
use Rattle.model.proofs.RowLaws.{length_read}
use Rattle.tables.specs.Found.{lower_bound}
use Rattle.tables.specs.Keys.{keys}
use Rattle.writer_effects.specs.declared.Assertion.{Assertion}
use Rattle.writer_effects.specs.Acts.{assertion_of}
use Rattle.writer_pass.specs.declared.Counts.{Counts}
use Rattle.writer_pass.specs.declared.Tally.{Tally}
use Rattle.writer_pass.specs.Passes.{writer_in, Sound, acts, differs, shifts_by, counts_of, raised, tally_of}
use Rattle.writer_pass.proofs.Passing.{partly, mid_split, mid_next, mid_from, mid_rest, mid_length, counts_small, Amid, amid_from, amid_read, amid_put, amid_kept, amid_rest}
use Rattle.writer_pass.proofs.Picks.{same_self, take_more, pick-append, pick-le, count_snoc, count_middle, mapped_snoc, last_snoc}
use Rattle.writer_pass.proofs.Prefixes.{Other, other_prefix, keys_are, lower_within, lower_others, behind-others}

-- ---- writers that f leaves as they are

module _ (f : Writer → Writer) where
  abbrev Left : Writer → Type 0
  Left w = f w ≡ w

  map-left : (ws : List Writer) → All Left ws → map f ws ≡ ws
  map-left [] l = refl
  map-left (w ∷ ws) l = rw (l.0, map-left ws l.1)

  pick-left : (ws : List Writer) → All Left ws → pick (shifts_by f) ws ≡ []
  unfolding pick
  pick-left [] l = refl
  pick-left (w ∷ ws) l = rw (l.0, same_self (class_of w.liveliness.state)) (pick-left ws l.1)

  pick_rest : (ws : List Writer) (i : ℕ) → All Left (drop i ws) → pick (shifts_by f) (take i ws) ≡ pick (shifts_by f) ws
  pick_rest ws i l =
      sym (ap (pick (shifts_by f)) (sym (take-append-drop i ws)) ∙ pick-append (shifts_by f) (take i ws) (drop i ws)
      ∙ ap (λ (z : List Writer). pick (shifts_by f) (take i ws) ++ z) (pick-left (drop i ws) l) ∙ append-nil (pick (shifts_by f) (take i ws)))

-- an assertion leaves those of another prefix
left-others : (a : Assertion) (ws : List Writer) → All (Other a.guid) ws → All (Left (asserted (assertion_of a))) ws
left-others a [] o = tt
left-others a (w ∷ ws) o = (other_prefix (assertion_of a) w o.0, left-others a ws o.1)

-- ---- one writer is alive now

raise_each : (st : WriterState) (x y k k₂ m m₂ n : ℕ) (g : Guid) (l : LastWriter) → k ≡ bit (is_alive_class (class_of st)) + x → k₂ ≡ bit (is_not_alive_class (class_of st)) + y →
    m ≡ 1 + x → m₂ ≡ 0 + y →
    cond {A = Tally} (is_alive_class (class_of st)) record { counts = record { alive = k; not_alive = k₂ }; moved = n; last = l }
    record { counts = record { alive = k + 1; not_alive = cond (is_not_alive_class (class_of st)) (k₂ - 1) k₂ }; moved = n + 1; last = Some g }
    ≡ record { counts = record { alive = m; not_alive = m₂ }; moved = cond (differs st Alive) (n + 1) n; last = cond (differs st Alive) (Some g) l }
raise_each Unasserted x y k k₂ m m₂ n g l p q u v =
    let e : k + 1 ≡ m = omega arith in
    let f : k₂ ≡ m₂ = omega arith in
    rw (e, f)
raise_each Alive x y k k₂ m m₂ n g l p q u v =
    let e : k ≡ m = omega arith in
    let f : k₂ ≡ m₂ = omega arith in
    rw (e, f)
raise_each NotAlive x y k k₂ m m₂ n g l p q u v =
    let e : k + 1 ≡ m = omega arith in
    let f : k₂ - 1 ≡ m₂ = omega arith in
    rw (e, f)
raise_each Departed x y k k₂ m m₂ n g l p q u v =
    let e : k + 1 ≡ m = omega arith in
    let f : k₂ - 1 ≡ m₂ = omega arith in
    rw (e, f)

pub raise_told : (xs ys : List Writer) (w v : Writer) (n : ℕ) (l : LastWriter) → v.liveliness.state ≡ Alive →
    raised record { counts = counts_of (xs ++ w ∷ ys); moved = n; last = l } w
    ≡ record {
      counts = counts_of (xs ++ v ∷ ys);
      moved = cond (differs w.liveliness.state v.liveliness.state) (n + 1) n;
      last = cond (differs w.liveliness.state v.liveliness.state) (Some w.guid) l;
    }
unfolding alive_count not_alive_count
raise_told xs ys w v n l e =
    let u = count_middle counts_alive xs ys v in
    let z = count_middle counts_not_alive xs ys v in
    rw e
    (raise_each w.liveliness.state (length (pick counts_alive (xs ++ ys))) (length (pick counts_not_alive (xs ++ ys))) _ _ _ _ n w.guid l
    (count_middle counts_alive xs ys w) (count_middle counts_not_alive xs ys w) (rw e at u) (rw e at z))

-- ---- the assertion at one record

pub part_touched : (a : Assertion) (w v : Writer) (t t' : List ℕ) (i : ℕ) (y z : Bool) → y ≡ acts a w → y ≡ true → v ≡ with_state Alive a.clock w →
    t' ≡ patch t (i * 40) 40 (writer_bytes v) → z ≡ counts_alive w →
    (t' ≡ cond (acts a w) (patch t (i * 40) 40 (writer_bytes (with_state Alive a.clock w))) t) × (not z ≡ (acts a w && not (counts_alive w)))
part_touched a w v t t' i y z b e f p q = rw (← b, e, q) (p ∙ ap (λ (x : Writer). patch t (i * 40) 40 (writer_bytes x)) f, refl)

pub part-kept : (a : Assertion) (w : Writer) (t : List ℕ) (i : ℕ) (y : Bool) → y ≡ acts a w → y ≡ false →
    (t ≡ cond (acts a w) (patch t (i * 40) 40 (writer_bytes (with_state Alive a.clock w))) t) × (false ≡ (acts a w && not (counts_alive w)))
part-kept a w t i y b e = rw (← b, e) (refl, refl)

pub moves-not-alive : (a : Assertion) (w : Writer) → (acts a w && not (counts_alive w)) ≡ true → counts_alive w ≡ false
moves-not-alive a w = each (acts a w) (counts_alive w)
  where
    each : (x y : Bool) → (x && not y) ≡ true → y ≡ false
    each true true h = sym h
    each true false h = refl
    each false y h = let z : ◌≡◌ {A = ℕ} 0 1 = cc in absurd (omega arith)

-- the tally of a record, where the writer moves to the alive ones and where it does not
module _ (a : Assertion) (w : Writer) (tally : Tally) where
  pub tally-moved : (acts a w && not (counts_alive w)) ≡ true → raised tally w ≡ cond (acts a w) (raised tally w) tally
  tally-moved = each (acts a w) (counts_alive w)
    where
      each : (x y : Bool) {r : Tally} → (x && not y) ≡ true → r ≡ cond x r tally
      each true y h = refl
      each false y h = let z : ◌≡◌ {A = ℕ} 0 1 = cc in absurd (omega arith)

  pub tally-stays : (acts a w && not (counts_alive w)) ≡ false → tally ≡ cond (acts a w) (raised tally w) tally
  tally-stays = each (acts a w) (counts_alive w) _
    where
      each : (x y : Bool) (r : Tally) → (x && not y) ≡ false → tally ≡ cond x (cond y tally r) tally
      each true true r h = refl
      each true false r h = let z : ◌≡◌ {A = ℕ} 0 1 = cc in absurd (omega arith)
      each false y r h = refl

-- ---- the loop

-- the tally once the first i writers are asserted
abbrev mid_tally : (Writer → Writer) → LastWriter → ℕ → List Writer → Tally
mid_tally f last i ws =
    record {
      counts = counts_of (partly f i ws);
      moved = length (pick (shifts_by f) (take i ws));
      last = last_after (map guid_in (pick (shifts_by f) (take i ws))) last;
    }

-- where the writers of a prefix start
abbrev Starts : Guid → List Writer → ℕ → Type 0
Starts g ws from = from ≡ lower_bound (map writer_key ws) (prefix g * 2 ^ 32)

pub starts : (t : List ℕ) (count from : ℕ) (g first : Guid) → from ≡ lower_bound (keys 40 count t) (num first) → num first ≡ prefix g * 2 ^ 32 →
    Starts g (writers_in count t) from
starts t count from g first e f = e ∙ ap (λ (l : List ℕ). lower_bound l (num first)) (keys_are count t) ∙ ap (lower_bound (map writer_key (writers_in count t))) f

pub record Asserting (a : Assertion) (last : LastWriter) (t₀ : List ℕ) (count from : ℕ) (t : List ℕ) (tally : Tally) (i : ℕ) : Type 0 where
  pub lower : Starts a.guid (writers_in count t₀) from
  pub amid : Amid (asserted (assertion_of a)) t₀ count t i
  pub told : tally ≡ mid_tally (asserted (assertion_of a)) last i (writers_in count t₀)
  pub beyond : from ≤ i
  pub few : tally.counts.alive ≤ 128
  pub moved : tally.moved ≤ 128

module _ (a : Assertion) (last : LastWriter) (t₀ : List ℕ) (count from : ℕ) (b : Bytes t₀) (s : Sound count t₀) (r : rising writer_key (writers_in count t₀) ≡ true) where
  abbrev ws : List Writer
  ws = writers_in count t₀

  abbrev f : Writer → Writer
  f = asserted (assertion_of a)

  size : length ws ≡ count
  size = length_read writer_of 40 count t₀

  asserting : (i : ℕ) (t : List ℕ) (tally : Tally) → Starts a.guid ws from → Amid f t₀ count t i → tally ≡ mid_tally f last i ws → from ≤ i →
      Asserting a last t₀ count from t tally i
  asserting i t tally at d e h =
      let k = counts_small (partly f i ws) in
      let n : length (partly f i ws) ≡ length ws = mid_length f ws i (omega (arith, size, d.below)) in
      let m = pick-le (shifts_by f) (take i ws) in
      record {
        lower = at;
        amid = d;
        told = e;
        beyond = h;
        few = rw e (omega (arith, k.0, s.few, size));
        moved = rw e (omega (arith, m, length-take-le i ws (omega (arith, size, d.below)), s.few, d.below));
      }

  pub asserting_start : Starts a.guid ws from → (counts : Counts) → counts ≡ counts_of ws →
      Asserting a last t₀ count from t₀ record { counts = counts; moved = 0; last = last } from
  unfolding last_after
  asserting_start at counts e =
      let o = left-others a (take from ws) (lower_others a.guid ws from r at) in
      let m = map-left f (take from ws) o in
      let within : from ≤ length ws = lower_within a.guid ws from r at in
      asserting from t₀ record { counts = counts; moved = 0; last = last } at
      (amid_from f t₀ count b s from (omega (arith, within, size)) m)
      (rw (mid_from f ws from within m, pick-left f (take from ws) o, e)) (omega arith)

  module _ (t : List ℕ) (tally : Tally) (i : ℕ) (d : Asserting a last t₀ count from t tally i) where
    module _ (h : i < count) (w : Writer) (e : w ≡ writer_in t i) where
      inside : i < length ws
      inside = omega (arith, size)

      read : w ≡ get_or ws i w
      read = e ∙ amid_read f t₀ count b s t i d.amid h w

      before : partly f i ws ≡ map f (take i ws) ++ w ∷ drop (suc i) ws
      before = mid_split f ws i w inside ∙ ap (λ (z : Writer). map f (take i ws) ++ z ∷ drop (suc i) ws) (sym read)

      after : partly f (i + 1) ws ≡ map f (take i ws) ++ f w ∷ drop (suc i) ws
      after = mid_next f ws i w inside ∙ ap (λ (z : Writer). map f (take i ws) ++ f z ∷ drop (suc i) ws) (sym read)

      one : take (i + 1) ws ≡ take i ws ++ w ∷ []
      one = take_more ws i w inside ∙ ap (λ (z : Writer). take i ws ++ z ∷ []) (sym read)

      next : mid_tally f last (i + 1) ws
          ≡ record {
            counts = counts_of (map f (take i ws) ++ f w ∷ drop (suc i) ws);
            moved = cond (shifts_by f w) (length (pick (shifts_by f) (take i ws)) + 1) (length (pick (shifts_by f) (take i ws)));
            last = cond (shifts_by f w) (Some w.guid) (last_after (map guid_in (pick (shifts_by f) (take i ws))) last);
          }
      next =
          rw (
            after,
            one,
            count_snoc (shifts_by f) (take i ws) w,
            mapped_snoc guid_in (shifts_by f) (take i ws) w,
            last_snoc (map guid_in (pick (shifts_by f) (take i ws))) (shifts_by f w) w.guid last,
          )

      -- a writer that is not alive is counted so
      pub asserting_there : counts_not_alive w ≡ true → 1 ≤ tally.counts.not_alive
      unfolding not_alive_count
      asserting_there y =
          rw (d.told, before)
          (omega (arith, rw y at (count_middle counts_not_alive (map f (take i ws)) (drop (suc i) ws) w)))

      step : (y : Bool) → acts a w ≡ y → (t' : List ℕ) (q : Tally) → t' ≡ cond y (patch t (i * 40) 40 (writer_bytes (with_state Alive a.clock w))) t →
          q ≡ cond y (raised tally w) tally → Asserting a last t₀ count from t' q (i + 1)
      unfolding asserted
      step true y t' q p u =
          let v : Writer = with_state Alive a.clock w in
          let g : f w ≡ v = rw y in
          asserting (i + 1) t' q d.lower (amid_put f t₀ count b s t i d.amid h v t' (sym (ap f (sym e) ∙ g)) p)
          (u ∙ ap (λ (z : Tally). raised z w) (d.told ∙ rw before)
          ∙ raise_told (map f (take i ws)) (drop (suc i) ws) w (f w) _ _ (ap (λ (z : Writer). z.liveliness.state) g) ∙ sym next)
          (omega (arith, d.beyond))
      step false y t' q p u =
          let g : f w ≡ w = rw y in
          asserting (i + 1) t' q d.lower (rw p (amid_kept f t₀ count b s t i d.amid h (rw (← e) g)))
          (u ∙ d.told ∙ sym (next ∙ rw (g, same_self (class_of w.liveliness.state), ← before)))
          (omega (arith, d.beyond))

      pub asserting_turn : (t' : List ℕ) (q : Tally) → t' ≡ cond (acts a w) (patch t (i * 40) 40 (writer_bytes (with_state Alive a.clock w))) t →
          q ≡ cond (acts a w) (raised tally w) tally → Asserting a last t₀ count from t' q (i + 1)
      asserting_turn t' q p u = step (acts a w) refl t' q p u

    ended : All (Left f) (drop i ws) → (t ≡ lay writer_bytes 40 (length t₀) (map f ws)) × (tally ≡ tally_of f last ws)
    unfolding tally_of
    ended o =
        let m = map-left f (drop i ws) o in
        (amid_rest f t₀ count b s t i d.amid m, d.told ∙ rw (mid_rest f ws i (omega (arith, size, d.amid.below)) m, pick_rest f ws i o))

    -- at a writer of another prefix
    pub asserting_left : i < count → (w : Writer) → w ≡ writer_in t i → Other a.guid w → (t ≡ lay writer_bytes 40 (length t₀) (map f ws)) × (tally ≡ tally_of f last ws)
    asserting_left h w e o =
        ended (left-others a (drop i ws) (behind-others a.guid ws from r d.lower i w d.beyond (omega (arith, size)) (e ∙ amid_read f t₀ count b s t i d.amid h w) o))

    pub asserting_end : count ≤ i → (t ≡ lay writer_bytes 40 (length t₀) (map f ws)) × (tally ≡ tally_of f last ws)
    asserting_end h = let none : drop i ws ≡ [] = drop_of_length-le ws {i = i} (omega (arith, size)) in ended (rw none tt)
