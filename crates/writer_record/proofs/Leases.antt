-- A writer's lease told from the bytes of its record, and its end written there, over plain variables.
--     leased_flags, leased-part     the byte of flags tells whether the writer is alive and has a lease
--     nanos_part, last-part         lease and last assertion where they stand in the table
--     alive_flags                   the state's number of an alive writer
--     expired-part                  the byte of flags with the next state is the record of the writer that is not alive
use Prim.Native.Nat.{ℕ, zero, suc, ◌+◌, ◌/◌, ◌%◌, ◌≤◌}
use mathlib.Core.Bool.{true, ◌&&◌}
use mathlib.Core.Path.{◌≡◌, refl, sym, ap, ◌∙◌}
use mathlib.Core.List.{List, ◌++◌, append_assoc}
use native.Mathlib.Nat.{add_assoc}
use native.Mathlib.Omega.{arith}
use borrow.Author.Tests.{eqb-true, eq-eqb, ne_eqb}
use lib.Dec.{eqb}
use lib.ListN.{length, take, drop, length-append, length-take, length-drop, take-append-drop}
use lib.Seq.{take-add, take-take, drop-drop, drop-append-le}
use Rattle.octets.specs.Bounds.{Bytes}
use Rattle.octets.specs.Octets.{be, put}
use Rattle.octets.specs.Patch.{patch, digits}
use Rattle.octets.proofs.Laws.{be-part}
use Rattle.octets.proofs.PatchLaws.{patch-at, put-patch, length_digits}
use Rattle.model.specs.declared.Writer.{Writer}
use Rattle.model.specs.declared.WriterState.{WriterState}
use Rattle.model.specs.declared.WriterState.TheVariants.{Unasserted, Alive, NotAlive, Departed}
use Rattle.model.specs.Writers.{is_alive_state, leased}
use Rattle.model.specs.WriterRecord.{state_number, state_numbered, writer_of, writer_flags, writer_bytes}
use Rattle.model.proofs.GuidLaws.{bytes_take, bytes_drop}
use Rattle.model.proofs.Tests.{both, bool_iff}
use Rattle.model.proofs.WriterLaws.{writer_fits, writer_spares}
use Rattle.writer_record.specs.Records.{lapsed}

-- ---- read

alive-numbered : (n : ℕ) → is_alive_state (state_numbered n) ≡ eqb n 1
alive-numbered zero = refl
alive-numbered (suc zero) = refl
alive-numbered (suc (suc zero)) = refl
alive-numbered (suc (suc (suc n))) = sym (ne_eqb (suc (suc (suc n))) 1 (λ e. omega arith))

three : (q : ℕ) → q / 2 % 4 ≡ 1 → q % 2 ≡ 1 → q % 8 ≡ 3
three q h l = omega arith

pub leased_flags : (f : ℕ) → eqb (f / 8 % 8) 3 ≡ (is_alive_state (state_numbered (f / 16 % 4)) && eqb (f / 8 % 2) 1)
leased_flags f =
    rw (alive-numbered (f / 16 % 4))
    (bool_iff (eqb (f / 8 % 8) 3) (eqb (f / 16 % 4) 1 && eqb (f / 8 % 2) 1)
    (λ e.
    let h = eqb-true (f / 8 % 8) 3 e in
    rw (eq-eqb (f / 16 % 4) 1 (omega arith), eq-eqb (f / 8 % 2) 1 (omega arith)))
    (λ e.
    let b = both (eqb (f / 16 % 4) 1) (eqb (f / 8 % 2) 1) e in
    let half : f / 8 / 2 ≡ f / 16 = omega arith in
    eq-eqb (f / 8 % 8) 3 (three (f / 8) (rw half (eqb-true (f / 16 % 4) 1 b.0)) (eqb-true (f / 8 % 2) 1 b.1))))

module _ (t : List ℕ) (at : ℕ) where
  -- the writer whose record starts at index at
  abbrev w : Writer
  w = writer_of (take 40 (drop at t))

  pub leased-part : eqb (be 1 t (at + 16) / 8 % 8) 3 ≡ leased w
  unfolding writer_of
  leased-part = rw (be-part 1 40 at t 16 (omega arith)) (leased_flags (be 1 t (at + 16)))

  pub nanos_part : w.liveliness.lease.nanos ≡ be 8 t (at + 24)
  unfolding writer_of
  nanos_part = be-part 8 40 at t 24 (omega arith)

  pub last-part : w.liveliness.last_assertion ≡ be 8 t (at + 32)
  unfolding writer_of
  last-part = be-part 8 40 at t 32 (omega arith)

  pub alive_flags : is_alive_state w.liveliness.state ≡ true → be 1 t (at + 16) / 16 % 4 ≡ 1
  unfolding writer_of
  alive_flags e =
      eqb-true (be 1 t (at + 16) / 16 % 4) 1
      (sym (alive-numbered (be 1 t (at + 16) / 16 % 4)) ∙ (rw (be-part 1 40 at t 16 (omega arith)) at e))

-- ---- written

-- a part of a part is replaced
patch_inside : (d : List ℕ) (at m o k : ℕ) (r : List ℕ) → at + m ≤ length d → o + k ≤ m →
    patch d (at + o) k r ≡ patch d at m (patch (take m (drop at d)) o k r)
patch_inside d at m o k r h l =
    let q : List ℕ = take m (drop at d) in
    let n : length q ≡ m = simp (length-take, length-drop) (omega arith) in
    let z : drop (at + o + k) d ≡ drop (o + k) q ++ drop (at + m) d =
    ap (λ (i : ℕ). drop i d) (add_assoc at o k) ∙ sym (drop-drop (o + k) at d) ∙ ap (drop (o + k)) (sym (take-append-drop m (drop at d)))
    ∙ drop-append-le (o + k) q (drop m (drop at d)) (omega arith) ∙ ap (λ (l : List ℕ). drop (o + k) q ++ l) (drop-drop m at d) in
    rw (z, take-add at o d, take-take o m (drop at d) (omega arith))
    (simp append_assoc)

number-alive : (s : WriterState) → is_alive_state s ≡ true → state_number s ≡ 1
number-alive Unasserted e = let z : ◌≡◌ {A = ℕ} 0 1 = cc in absurd (omega arith)
number-alive Alive e = refl
number-alive NotAlive e = let z : ◌≡◌ {A = ℕ} 0 1 = cc in absurd (omega arith)
number-alive Departed e = let z : ◌≡◌ {A = ℕ} 0 1 = cc in absurd (omega arith)

flags_lapsed : (w : Writer) → is_alive_state w.liveliness.state ≡ true → writer_flags (lapsed w) ≡ writer_flags w + 16
unfolding writer_flags
flags_lapsed w e = omega (arith, number-alive w.liveliness.state e)

bytes-lapsed : (w : Writer) → is_alive_state w.liveliness.state ≡ true → patch (writer_bytes w) 16 1 (digits 1 (writer_flags w + 16)) ≡ writer_bytes (lapsed w)
unfolding writer_bytes
bytes-lapsed w e =
    let a : List ℕ = digits 8 w.guid.hi in
    let b : List ℕ = digits 8 w.guid.lo in
    let n : length (a ++ b) ≡ 16 = omega (arith, length-append a b, length_digits 8 w.guid.hi, length_digits 8 w.guid.lo) in
    rw (flags_lapsed w e, ← append_assoc a b _, ← append_assoc a b _)
    (patch-at (a ++ b) (digits 1 (writer_flags w)) _ 16 1 (digits 1 (writer_flags w + 16)) n (length_digits 1 (writer_flags w)))

pub expired-part : (t : List ℕ) (at f : ℕ) (t' : List ℕ) → Bytes t → at + 40 ≤ length t → writer_bytes (writer_of (take 40 (drop at t))) ≡ take 40 (drop at t) →
    is_alive_state (writer_of (take 40 (drop at t))).liveliness.state ≡ true → f ≡ be 1 t (at + 16) → t' ≡ put 1 t (at + 16) (f + 16) →
    t' ≡ patch t at 40 (writer_bytes (lapsed (writer_of (take 40 (drop at t)))))
expired-part t at f t' b room forth alive e p =
    let r : List ℕ = take 40 (drop at t) in
    let w : Writer = writer_of r in
    let n : length r ≡ 40 = simp (length-take, length-drop) (omega arith) in
    let fits = writer_fits r (bytes_take 40 (drop at t) (bytes_drop at t b)) n in
    let g : f ≡ writer_flags w =
    e ∙ sym (be-part 1 40 at t 16 (omega arith)) ∙ ap (λ (l : List ℕ). be 1 l 16) (sym forth) ∙ (writer_spares w fits).0 in
    p ∙ put-patch 1 t (at + 16) (f + 16) (omega arith) ∙ patch_inside t at 40 16 1 (digits 1 (f + 16)) room (omega arith)
    ∙ ap (λ (l : List ℕ). patch t at 40 (patch l 16 1 (digits 1 (f + 16)))) (sym forth)
    ∙ ap (λ (k : ℕ). patch t at 40 (patch (writer_bytes w) 16 1 (digits 1 (k + 16)))) g
    ∙ ap (λ (l : List ℕ). patch t at 40 l) (bytes-lapsed w alive)
