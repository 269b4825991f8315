-- A set and a list walked side by side.
--     stands-end, stands_at             where a GUID of the list stands, as it was told
--     on_turned                         one turn, from where it stands
--     Walking                           what holds while the first i of the set and the first j of the list are passed
--     walking_start, walking_turn       before the first; one turn more
--     walking_less                      a turn leaves less of the two
--     walking_end                       all are passed, and nil is put behind those that stay
use Prim.Native.Nat.{ℕ, zero, suc, ◌+◌, ◌-◌, ◌*◌, ◌/◌, ◌≤◌, ◌<◌}
use mathlib.Core.Bool.{Bool, true, false}
use mathlib.Core.List.{List, [], ◌∷◌, ◌++◌, append-nil, append_assoc}
use mathlib.Core.Logic.{◌⊎◌, inl, inr, ⊎_elim}
use mathlib.Core.Path.{◌≡◌, refl, sym, ap, ◌∙◌}
use native.Mathlib.Omega.{arith}
use borrow.Author.Tests.{lt-ltb, le-ltb, ltb-true, ltb-false, eqb-true, eqb-false}
use lib.Dec.{ltb}
use lib.ListN.{length, take, drop, replicate, length-append, length-drop, take-append-drop}
use lib.Seq.{drop_at, drop-drop, drop-length, length-take-le}
use Rattle.octets.specs.Bounds.{Bytes}
use Rattle.octets.specs.Lay.{rows}
use Rattle.octets.specs.Patch.{patch, digits}
use Rattle.octets.proofs.LayLaws.{rows_append}
use Rattle.octets.proofs.PatchLaws.{take-patch, drop-patch, length-patch}
use Rattle.model.specs.declared.Guid.{Guid}
use Rattle.model.specs.Guids.{num, less, same, nil, guid_of, guid_at, guids_in, guid_bytes, guids_bytes}
use Rattle.model.specs.Tables.{above, pick, rising}
use Rattle.model.proofs.GuidLaws.{bytes_take, bytes_drop, guid_forth, guid-part, length-guid, length_guids}
use Rattle.model.proofs.RowLaws.{length_read, read_cons, drop_read}
use Rattle.model.proofs.Tests.{both, split}
use Rattle.writer_set.specs.Places.{padded}
use Rattle.writer_set.proofs.SetLaws.{length-padded}
use Rattle.std.specs.declared.cmp.Ordering.{Ordering}
use Rattle.std.specs.declared.cmp.Ordering.TheVariants.{Less, Equal, Greater}
use Rattle.writer_set_bytes.specs.declared.Walk.{Walk}
use Rattle.writer_set_bytes.specs.Others.{others}
use Rattle.writer_set_bytes.specs.Lists.{gones_in, Listed}
use Rattle.writer_set_bytes.specs.Walks.{Filled, standing, beside_at, walked, stayed}
use Rattle.writer_set_bytes.proofs.SideBySide.{other_same, other_before, other_behind, others_none}

abbrev zeros : ℕ → List ℕ
zeros n = replicate n 0

-- ---- one turn

pub stands-end : (gone : List ℕ) (j : ℕ) (g : Guid) → length gone / 16 ≤ j → Greater ≡ beside_at gone j g
stands-end gone j g h = rw (le-ltb j (length gone / 16) h)

pub stands_at : (gone : List ℕ) (j : ℕ) (g a : Guid) (r : Ordering) → j < length gone / 16 → a ≡ guid_at gone (j * 16) → r ≡ standing a g → r ≡ beside_at gone j g
stands_at gone j g a r h e q = rw (lt-ltb j (length gone / 16) h, ← e) q

pub stand_same : (a g : Guid) (b : Bool) → b ≡ same a g → b ≡ true → Equal ≡ standing a g
stand_same a g b e h = let q : same a g ≡ true = sym e ∙ h in rw q

pub stand_before : (a g : Guid) (b c : Bool) → b ≡ same a g → b ≡ false → c ≡ less a g → c ≡ true → Less ≡ standing a g
stand_before a g b c e h f k =
    let q : same a g ≡ false = sym e ∙ h in
    let r : less a g ≡ true = sym f ∙ k in
    rw (q, r)

pub stand_behind : (a g : Guid) (b c : Bool) → b ≡ same a g → b ≡ false → c ≡ less a g → c ≡ false → Greater ≡ standing a g
stand_behind a g b c e h f k =
    let q : same a g ≡ false = sym e ∙ h in
    let r : less a g ≡ false = sym f ∙ k in
    rw (q, r)

pub stay_stood : (d : List ℕ) (i k : ℕ) (g : Guid) → Bytes d → k ≡ i → i * 16 + 16 ≤ length d → g ≡ guid_at d (i * 16) → d ≡ patch d (k * 16) 16 (guid_bytes g)
stay_stood d i k g b e h q =
    let n : length (take 16 (drop (i * 16) d)) ≡ 16 = length-take-le 16 (drop (i * 16) d) (omega (arith, length-drop (i * 16) d)) in
    let w : guid_bytes g ≡ take 16 (drop (i * 16) d) =
    ap guid_bytes (q ∙ sym (guid-part 16 (i * 16) d (omega arith)))
    ∙ guid_forth (take 16 (drop (i * 16) d)) (bytes_take 16 (drop (i * 16) d) (bytes_drop (i * 16) d b)) n in
    rw (e, w) (sym (rw (← drop-drop 16 (i * 16) d, take-append-drop 16 (drop (i * 16) d)) (take-append-drop (i * 16) d)))

pub stay_turned : (w : Walk) (set set' : List ℕ) {g : Guid} → set' ≡ patch set (w.k * 16) 16 (guid_bytes g) → g ≡ guid_at set (w.i * 16) → set' ≡ stayed Greater w set
stay_turned w set set' e q = e ∙ ap (λ (x : Guid). patch set (w.k * 16) 16 (guid_bytes x)) q

pub on_turned : (gone set set' : List ℕ) (w r : Walk) (g : Guid) (b v : Ordering) → g ≡ guid_at set (w.i * 16) → b ≡ beside_at gone w.j g → b ≡ v →
    r ≡ walked v w → set' ≡ stayed v w set →
    (r ≡ walked (beside_at gone w.j (guid_at set (w.i * 16))) w) × (set' ≡ stayed (beside_at gone w.j (guid_at set (w.i * 16))) w set)
on_turned gone set set' w r g b v e q f x y = rw (← e, ← q, f) (x, y)

-- by where the GUID of the list stands
beside_cases : (P : Ordering → Type 0) (gone : List ℕ) (j : ℕ) (g : Guid) → (j < length gone / 16 → num (guid_at gone (j * 16)) < num g → P Less) →
    (j < length gone / 16 → num g ≡ num (guid_at gone (j * 16)) → P Equal) →
    ((length gone / 16 ≤ j) ⊎ ((j < length gone / 16) × (num g < num (guid_at gone (j * 16)))) → P Greater) → P (beside_at gone j g)
beside_cases P gone j g x y z =
    let a : Guid = guid_at gone (j * 16) in
    split (ltb j (length gone / 16))
    (λ e.
    let l : j < length gone / 16 = ltb-true j (length gone / 16) e in
    rw e
    (split (same a g) (λ f. rw f (y l (sym (eqb-true (num a) (num g) f))))
    (λ f.
    rw f
    (split (less a g) (λ h. rw h (x l (ltb-true (num a) (num g) h)))
    (λ h. rw h (z (inr (l, omega (arith, eqb-false (num a) (num g) f, ltb-false (num a) (num g) h)))))))))
    (λ e. rw e (z (inl (ltb-false j (length gone / 16) e))))

-- ---- lists of GUIDs in bytes

pub guids_drop : (n i : ℕ) (t : List ℕ) → i < n → drop i (guids_in n t) ≡ guid_at t (i * 16) ∷ drop (i + 1) (guids_in n t)
guids_drop n i t h =
    drop_read guid_of 16 i n t (omega arith) ∙ read_cons guid_of 16 n i t h
    ∙ rw (guid-part 16 (i * 16) t (omega arith), ← drop_read guid_of 16 (i + 1) n t (omega arith))

pub guids_over : (n i : ℕ) (t : List ℕ) → n ≤ i → drop i (guids_in n t) ≡ []
guids_over n i t h =
    let e : n + (i - n) ≡ i = omega arith in
    let m : length (guids_in n t) ≡ n = length_read guid_of 16 n t in
    sym (drop-drop (i - n) n (guids_in n t) ∙ ap (λ (k : ℕ). drop k (guids_in n t)) e)
    ∙ ap (drop (i - n)) (ap (λ (k : ℕ). drop k (guids_in n t)) (sym m) ∙ drop-length (guids_in n t)) ∙ drop_none (i - n)
  where
    drop_none : (k : ℕ) → ◌≡◌ {A = List Guid} (drop k []) []
    drop_none zero = refl
    drop_none (suc k) = refl

rising_rest : (i : ℕ) (s : List Guid) → rising num s ≡ true → rising num (drop i s) ≡ true
unfolding rising
rising_rest zero s e = e
rising_rest (suc i) [] e = refl
rising_rest (suc i) (x ∷ s) e = rising_rest i s (both (above num (num x) s) (rising num s) e).1

pub drop-same : (n m : ℕ) (t u : List ℕ) → n ≤ m → drop n t ≡ drop n u → drop m t ≡ drop m u
drop-same n m t u h e =
    let k : n + (m - n) ≡ m = omega arith in
    sym (drop-drop (m - n) n t ∙ ap (λ (j : ℕ). drop j t) k) ∙ ap (λ (z : List ℕ). drop (m - n) z) e ∙ drop-drop (m - n) n u
    ∙ ap (λ (j : ℕ). drop j u) k

zeros-add : (a b : ℕ) → zeros a ++ zeros b ≡ zeros (a + b)
zeros-add zero b = let e : 0 + b ≡ b = omega arith in rw e
zeros-add (suc a) b = let e : suc a + b ≡ suc (a + b) = omega arith in rw e (ap (λ (z : List ℕ). 0 ∷ z) (zeros-add a b))

nil-bytes : guid_bytes nil ≡ zeros 16
unfolding guid_bytes digits
nil-bytes = refl

pub nils-bytes : (n : ℕ) → guids_bytes (replicate n nil) ≡ zeros (n * 16)
unfolding rows
nils-bytes zero = refl
nils-bytes (suc n) =
    let e : 16 + n * 16 ≡ suc n * 16 = omega arith in
    rw (nil-bytes, nils-bytes n) (zeros-add 16 (n * 16) ∙ ap zeros e)

pub padded-bytes : (s : List Guid) → guids_bytes (padded s) ≡ guids_bytes s ++ zeros ((16 - length s) * 16)
padded-bytes s = rows_append guid_bytes s (replicate (16 - length s) nil) ∙ rw (nils-bytes (16 - length s))

pub filled_long : (n : ℕ) (set : List ℕ) → Filled n set → length set ≡ 256
filled_long n set f =
    let m : length (guids_in n set) ≡ n = length_read guid_of 16 n set in
    let k : length (padded (guids_in n set)) ≡ 16 = length-padded (guids_in n set) (omega (arith, f.few, m)) in
    ap length f.laid ∙ length_guids (padded (guids_in n set)) ∙ rw k

-- ---- the walk

module _ (set₀ : List ℕ) (n : ℕ) (gone : List ℕ) where
  abbrev S : List Guid
  S = guids_in n set₀

  abbrev G : List Guid
  G = gones_in gone

  pub record Walking (set : List ℕ) (w : Walk) : Type 0 where
    pub below : w.i ≤ n
    pub listed : w.j ≤ length gone / 16
    pub long : length set ≡ 256
    pub ahead : drop (w.i * 16) set ≡ drop (w.i * 16) set₀
    pub stays : List Guid
    pub count : length stays ≡ w.k
    pub kept : w.k ≤ w.i
    pub front : take (w.k * 16) set ≡ guids_bytes stays
    pub rest : others G S ≡ stays ++ others (drop w.j G) (drop w.i S)

  module _ (f : Filled n set₀) (l : Listed gone) where
    pub walking_start : (from : ℕ) → from ≤ length gone / 16 → others (drop from G) S ≡ others G S → Walking set₀ record { i = 0; j = from; k = 0 }
    unfolding rows
    walking_start from h e =
        record {
          below = omega arith;
          listed = h;
          long = filled_long n set₀ f;
          ahead = refl;
          stays = [];
          count = refl;
          kept = omega arith;
          front = refl;
          rest = sym e;
        }

    module _ (set : List ℕ) (w : Walk) (d : Walking set w) (more : w.i < n) where
      abbrev g : Guid
      g = guid_at set (w.i * 16)

      same-guid : guid_at set₀ (w.i * 16) ≡ g
      same-guid =
          sym (guid-part 16 (w.i * 16) set₀ (omega arith)) ∙ ap (λ (z : List ℕ). guid_of (take 16 z)) (sym d.ahead) ∙ guid-part 16 (w.i * 16) set (omega arith)

      set_next : drop w.i S ≡ g ∷ drop (w.i + 1) S
      set_next = guids_drop n w.i set₀ more ∙ ap (λ (x : Guid). x ∷ drop (w.i + 1) S) same-guid

      set-rises : rising num (g ∷ drop (w.i + 1) S) ≡ true
      set-rises = rw set_next at (rising_rest w.i S f.rises)

      gone-next : w.j < length gone / 16 → drop w.j G ≡ guid_at gone (w.j * 16) ∷ drop (w.j + 1) G
      gone-next h = guids_drop (length gone / 16) w.j gone h

      gone-rises : (h : w.j < length gone / 16) → rising num (guid_at gone (w.j * 16) ∷ drop (w.j + 1) G) ≡ true
      gone-rises h = rw (gone-next h) at (rising_rest w.j G l.rises)

      onward : drop ((w.i + 1) * 16) set ≡ drop ((w.i + 1) * 16) set₀
      onward = drop-same (w.i * 16) ((w.i + 1) * 16) set set₀ (omega arith) d.ahead

      passed : w.j < length gone / 16 → num (guid_at gone (w.j * 16)) < num g → Walking (stayed Less w set) (walked Less w)
      passed h b =
          record {
            below = d.below;
            listed = omega arith;
            long = d.long;
            ahead = d.ahead;
            stays = d.stays;
            count = d.count;
            kept = d.kept;
            front = d.front;
            rest = d.rest
                ∙ ap (λ (z : List Guid). d.stays ++ z)
                (rw (gone-next h, set_next) (other_before (guid_at gone (w.j * 16)) (drop (w.j + 1) G) g (drop (w.i + 1) S) set-rises b));
          }

      taken : w.j < length gone / 16 → num g ≡ num (guid_at gone (w.j * 16)) → Walking (stayed Equal w set) (walked Equal w)
      taken h b =
          record {
            below = omega arith;
            listed = omega arith;
            long = d.long;
            ahead = onward;
            stays = d.stays;
            count = d.count;
            kept = omega (arith, d.kept);
            front = d.front;
            rest = d.rest
                ∙ ap (λ (z : List Guid). d.stays ++ z)
                (rw (gone-next h, set_next) (other_same (guid_at gone (w.j * 16)) (drop (w.j + 1) G) g (drop (w.i + 1) S) set-rises b));
          }

      unlisted : (length gone / 16 ≤ w.j) ⊎ ((w.j < length gone / 16) × (num g < num (guid_at gone (w.j * 16)))) →
          others (drop w.j G) (g ∷ drop (w.i + 1) S) ≡ g ∷ others (drop w.j G) (drop (w.i + 1) S)
      unlisted h =
          ⊎_elim
          (λ b.
          let e : drop w.j G ≡ [] = guids_over (length gone / 16) w.j gone b in
          rw e (others_none (g ∷ drop (w.i + 1) S) ∙ ap (λ (z : List Guid). g ∷ z) (sym (others_none (drop (w.i + 1) S)))))
          (λ b. rw (gone-next b.0) (other_behind (guid_at gone (w.j * 16)) (drop (w.j + 1) G) g (drop (w.i + 1) S) (gone-rises b.0) b.1))
          h

      stayed_on : (length gone / 16 ≤ w.j) ⊎ ((w.j < length gone / 16) × (num g < num (guid_at gone (w.j * 16)))) → Walking (stayed Greater w set) (walked Greater w)
      unfolding rows
      stayed_on h =
          let room : w.k * 16 + 16 ≤ 256 = omega (arith, d.kept, f.few) in
          let e : w.k * 16 + 16 ≡ (w.k + 1) * 16 = omega arith in
          record {
            below = omega arith;
            listed = d.listed;
            long = length-patch set (w.k * 16) 16 (guid_bytes g) (omega (arith, d.long)) (length-guid g) ∙ d.long;
            ahead = drop-same (w.k * 16 + 16) ((w.i + 1) * 16) (patch set (w.k * 16) 16 (guid_bytes g)) set (omega (arith, d.kept))
                (drop-patch set (w.k * 16) 16 (guid_bytes g) (omega (arith, d.long)) (length-guid g))
                ∙ onward;
            stays = d.stays ++ g ∷ [];
            count = omega (arith, length-append d.stays (g ∷ []), d.count);
            kept = omega (arith, d.kept);
            front = ap (λ (k : ℕ). take k (patch set (w.k * 16) 16 (guid_bytes g))) (sym e)
                ∙ take-patch set (w.k * 16) 16 (guid_bytes g) (omega (arith, d.long)) (length-guid g)
                ∙ rw (d.front, rows_append guid_bytes d.stays (g ∷ []), append-nil (guid_bytes g));
            rest = d.rest ∙ rw (set_next, unlisted h) (sym (append_assoc d.stays (g ∷ []) (others (drop w.j G) (drop (w.i + 1) S))));
          }

      pub walking_turn : Walking (stayed (beside_at gone w.j g) w set) (walked (beside_at gone w.j g) w)
      walking_turn = beside_cases (λ (b : Ordering). Walking (stayed b w set) (walked b w)) gone w.j g passed taken stayed_on

    -- what is left of both
    abbrev pub left : Walk → ℕ
    left w = (n - w.i) + (length gone / 16 - w.j)

    pub walking_less : (set : List ℕ) (w : Walk) → Walking set w → w.i < n → left (walked (beside_at gone w.j (guid_at set (w.i * 16))) w) < left w
    walking_less set w d more =
        beside_cases (λ (b : Ordering). left (walked b w) < left w) gone w.j (guid_at set (w.i * 16)) (λ h b. omega arith) (λ h b. omega arith) (λ b. omega (arith, d.listed))

    module _ (set : List ℕ) (w : Walk) (d : Walking set w) (done : n ≤ w.i) where
      all-out : others G S ≡ d.stays
      unfolding others pick
      all-out = d.rest ∙ rw (guids_over n w.i set₀ done) (append-nil d.stays)

      behind : drop (n * 16) set ≡ zeros ((16 - n) * 16)
      behind =
          let m : length S ≡ n = length_read guid_of 16 n set₀ in
          let e : w.i ≡ n = omega (arith, d.below) in
          rw e at d.ahead ∙ ap (drop (n * 16)) (f.laid ∙ padded-bytes S)
          ∙ drop_at (guids_bytes S) (zeros ((16 - length S) * 16)) (n * 16) (omega (arith, length_guids S)) ∙ rw m

      pub walking_end : (set' : List ℕ) → set' ≡ patch set (w.k * 16) ((n - w.k) * 16) (replicate ((n - w.k) * 16) 0) →
          (w.k ≡ length (others G S)) × (set' ≡ guids_bytes (padded (others G S)))
      walking_end set' e =
          let k : w.k * 16 + (n - w.k) * 16 ≡ n * 16 = omega (arith, d.kept, d.below) in
          let z : (n - w.k) * 16 + (16 - n) * 16 ≡ (16 - w.k) * 16 = omega (arith, d.kept, d.below, f.few) in
          let c : length d.stays ≡ w.k = d.count in
          rw all-out (
            sym c,
            e ∙ rw (k, behind, d.front, zeros-add ((n - w.k) * 16) ((16 - n) * 16), z) (sym (padded-bytes d.stays ∙ rw c)),
          )
