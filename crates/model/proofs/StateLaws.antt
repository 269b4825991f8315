-- The state laid out and read back, both ways, on well-formed states; and the fresh one.
--     lay_back         a well-formed state is the layout of what is read from it
--     read-back        what was laid out is read back
--     laid-valid       a layout is well formed exactly if the records are valid
--     read_valid       what is read from a well-formed state is valid
--     fresh-laid, fresh_read, fresh-formed      the fresh state
--     less-less        an amount less its change is taken off again
--     writers_each, writers-all      the writers' records, both ways
use Prim.Native.Nat.{ℕ, zero, suc, ◌+◌, ◌*◌, ◌%◌, ◌≤◌, ◌<◌}
use mathlib.Core.Bool.{Bool, true, false, ◌&&◌}
use mathlib.Core.Path.{◌≡◌, refl, sym, ap, ◌∙◌}
use mathlib.Core.List.{List, [], ◌∷◌, ◌++◌, append_assoc}
use native.Mathlib.Nat.{sub-zero}
use native.Mathlib.Omega.{arith}
use borrow.Author.Tests.{lt-ltb, ltb-true, eq-eqb, eqb-true, le-leb, leb-true}
use lib.Dec.{eqb, leb, ltb}
use lib.IntN.{pos}
use lib.ListN.{length, take, drop, length-drop}
use lib.Seq.{take_at, drop_at, length-take-le}
use Rattle.octets.specs.Bounds.{Bytes}
use Rattle.octets.specs.Lay.{rows, lay, All}
use Rattle.octets.proofs.Laws.{be-take}
use Rattle.octets.specs.Octets.{be}
use Rattle.octets.specs.Zeros.{all_zero}
use Rattle.model.specs.declared.Instance.{Instance}
use Rattle.model.specs.declared.Writer.{Writer}
use Rattle.model.specs.Guids.{guid_of, guid_bytes, guids_in}
use Rattle.model.specs.InstanceRecord.{flags_at, flags_of, instance_of, instance_bytes}
use Rattle.model.specs.State.{Lent, State, state_of, lay_out, head_of, fresh, fresh_state, alive_count, not_alive_count, instances_in, writers_in}
use Rattle.model.specs.Tables.{pick, all, rising}
use Rattle.model.specs.WellFormed.{handles_distinct, within, head_ok, kinds_ok, spares_ok, instances_ok, instance_table_ok, writers_ok, writer_table_ok, lost_ok, counts_ok, well_formed, valid}
use Rattle.model.specs.WriterRecord.{writer_flags_at, writer_flags, writer_of, writer_bytes}
use Rattle.model.proofs.Fits.{FitsGuid, FitsInstance, FitsWriter}
use Rattle.model.proofs.FlagLaws.{flags_small, writer_apart}
use Rattle.model.proofs.GuidLaws.{bytes_take, bytes_drop, guids_all, guids_back, guids_each}
use Rattle.model.proofs.InstanceLaws.{length-instance, instance_back, instance_forth, instance_flags}
use Rattle.model.proofs.Tests.{both, less-less}
use Rattle.model.proofs.RowLaws.{length_read, Back, Forth, read_rows_lem, lay_read, lay_rest}
use Rattle.model.proofs.WriterLaws.{length-writer, writer_back, writer_forth, writer_spares}

-- ---- small things

-- from the front of a list that goes on
be_front : (k at : ℕ) (r z : List ℕ) (n : ℕ) → length r ≡ n → at + k ≤ n → be k (r ++ z) at ≡ be k r at
be_front k at r z n e h = sym (be-take k n (r ++ z) at h) ∙ ap (λ (l : List ℕ). be k l at) (take_at r z n e)

and_true : (b : Bool) → (b && true) ≡ b
and_true true = refl
and_true false = refl

-- ---- each record of a well-formed table is laid out as it was

instances_each : (n : ℕ) (t : List ℕ) → Bytes t → n * 512 ≤ length t → kinds_ok n t ≡ true → Forth instance_bytes instance_of 512 n t
unfolding kinds_ok
instances_each zero t b h k = tt
instances_each (suc n) t b h k =
    let p : (ltb (flags_at t) 49152 ≡ true) × (kinds_ok n (drop 512 t) ≡ true) = both (ltb (flags_at t) 49152) (kinds_ok n (drop 512 t)) k in
    let small : flags_at (take 512 t) < 49152 = rw (be-take 2 512 t 24 (omega arith)) (ltb-true (flags_at t) 49152 p.0) in (
      instance_forth (take 512 t) (bytes_take 512 t b) (length-take-le 512 t (omega arith)) small,
      instances_each n (drop 512 t) (bytes_drop 512 t b) (omega (arith, length-drop 512 t)) p.1,
    )

pub writers_each : (n : ℕ) (t : List ℕ) → Bytes t → n * 40 ≤ length t → spares_ok n t ≡ true → Forth writer_bytes writer_of 40 n t
unfolding spares_ok
writers_each zero t b h k = tt
writers_each (suc n) t b h k =
    let p = both (ltb (writer_flags_at t) 192 && (eqb (writer_flags_at t % 8) 0 && eqb (be 7 t 17) 0)) (spares_ok n (drop 40 t)) k in
    let q = both (ltb (writer_flags_at t) 192) (eqb (writer_flags_at t % 8) 0 && eqb (be 7 t 17) 0) p.0 in
    let s = both (eqb (writer_flags_at t % 8) 0) (eqb (be 7 t 17) 0) q.1 in
    let e : writer_flags_at (take 40 t) ≡ writer_flags_at t = be-take 1 40 t 16 (omega arith) in
    let u : be 7 (take 40 t) 17 ≡ 0 = be-take 7 40 t 17 (omega arith) ∙ eqb-true (be 7 t 17) 0 s.1 in
    let small : writer_flags_at (take 40 t) < 192 = rw e (ltb-true (writer_flags_at t) 192 q.0) in
    let spare : writer_flags_at (take 40 t) % 8 ≡ 0 = rw e (eqb-true (writer_flags_at t % 8) 0 s.0) in (
      writer_forth (take 40 t) (bytes_take 40 t b) (length-take-le 40 t (omega arith)) small spare u,
      writers_each n (drop 40 t) (bytes_drop 40 t b) (omega (arith, length-drop 40 t)) p.1,
    )

-- ---- well formed, as plain facts

pub record Formed (places : ℕ) (l : Lent) : Type 0 where
  pub figure : l.head.places ≡ places
  pub head : head_ok l.head ≡ true
  pub few_instances : l.head.instance_count ≤ places
  pub rest_of_pens : all_zero (drop (l.head.instance_count * 512) l.pens) ≡ true
  pub kinds : kinds_ok l.head.instance_count l.pens ≡ true
  pub instances : instances_ok l.head.next_handle.0 (instances_in l.head.instance_count l.pens) ≡ true
  pub few_writers : l.head.writer_count ≤ 128
  pub rest_of_writers : all_zero (drop (l.head.writer_count * 40) l.writers) ≡ true
  pub spares : spares_ok l.head.writer_count l.writers ≡ true
  pub writers : writers_ok (writers_in l.head.writer_count l.writers) ≡ true
  pub few_lost : l.head.lost_count ≤ 256
  pub rest_of_lost : all_zero (drop (l.head.lost_count * 16) l.lost) ≡ true
  pub alive : l.head.alive ≡ alive_count (writers_in l.head.writer_count l.writers)
  pub not_alive : l.head.not_alive ≡ not_alive_count (writers_in l.head.writer_count l.writers)

pub formed_facts : (places : ℕ) (l : Lent) → well_formed places l ≡ true → Formed places l
unfolding well_formed instance_table_ok writer_table_ok lost_ok counts_ok
formed_facts places l formed =
    let o = both _ _ formed in
    let p = both _ _ o.1 in
    let q = both _ _ p.1 in
    let r = both _ _ q.1 in
    let s = both _ _ r.1 in
    let a = both _ _ q.0 in
    let b = both _ _ a.1 in
    let c = both _ _ b.1 in
    let d = both _ _ r.0 in
    let e = both _ _ d.1 in
    let f = both _ _ e.1 in
    let g = both _ _ s.0 in
    let h = both _ _ s.1 in
    record {
      figure = eqb-true _ _ o.0;
      head = p.0;
      few_instances = leb-true _ _ a.0;
      rest_of_pens = b.0;
      kinds = c.0;
      instances = c.1;
      few_writers = leb-true _ _ d.0;
      rest_of_writers = e.0;
      spares = f.0;
      writers = f.1;
      few_lost = leb-true _ _ g.0;
      rest_of_lost = g.1;
      alive = eqb-true _ _ h.0;
      not_alive = eqb-true _ _ h.1;
    }

-- ---- a well-formed state is the layout of what is read from it

-- lent buffers: of their lengths, and of bytes
pub record Buffers (places : ℕ) (l : Lent) : Type 0 where
  pub pens : length l.pens ≡ places * 512
  pub writers : length l.writers ≡ 5120
  pub lost : length l.lost ≡ 4096
  pub pens_bytes : Bytes l.pens
  pub writers_bytes : Bytes l.writers
  pub lost_bytes : Bytes l.lost

module _ (places : ℕ) (l : Lent) (b : Buffers places l) (f : Formed places l) where
  head_back : head_of places (state_of l) ≡ l.head
  unfolding head_of state_of
  head_back =
      rw (
        ← f.figure,
        length_read instance_of 512 l.head.instance_count l.pens,
        length_read writer_of 40 l.head.writer_count l.writers,
        length_read guid_of 16 l.head.lost_count l.lost,
        ← f.alive,
        ← f.not_alive,
        less-less (pos l.head.alive) l.head.alive_change,
        less-less (pos l.head.not_alive) l.head.not_alive_change,
      )

  pens_back : lay instance_bytes 512 (places * 512) (instances_in l.head.instance_count l.pens) ≡ l.pens
  pens_back =
      let m : l.head.instance_count * 512 ≤ length l.pens = omega (arith, b.pens, f.few_instances) in
      rw (← b.pens)
      (lay_read instance_bytes instance_of 512 l.head.instance_count l.pens m
      (instances_each l.head.instance_count l.pens b.pens_bytes m f.kinds) f.rest_of_pens)

  writers_back : lay writer_bytes 40 5120 (writers_in l.head.writer_count l.writers) ≡ l.writers
  writers_back =
      let m : l.head.writer_count * 40 ≤ length l.writers = omega (arith, b.writers, f.few_writers) in
      rw (← b.writers)
      (lay_read writer_bytes writer_of 40 l.head.writer_count l.writers m
      (writers_each l.head.writer_count l.writers b.writers_bytes m f.spares) f.rest_of_writers)

  lost_back : lay guid_bytes 16 4096 (guids_in l.head.lost_count l.lost) ≡ l.lost
  lost_back =
      let m : l.head.lost_count * 16 ≤ length l.lost = omega (arith, b.lost, f.few_lost) in
      rw (← b.lost)
      (lay_read guid_bytes guid_of 16 l.head.lost_count l.lost m (guids_each l.head.lost_count l.lost b.lost_bytes m) f.rest_of_lost)

  pub lay_back : lay_out places (state_of l) l.out ≡ l
  unfolding lay_out state_of
  lay_back = rw (head_back, pens_back, writers_back, lost_back)

  pub read_valid : valid places (state_of l) ≡ true
  unfolding valid head_ok state_of
  read_valid =
      rw (
        f.head,
        length_read instance_of 512 l.head.instance_count l.pens,
        length_read writer_of 40 l.head.writer_count l.writers,
        length_read guid_of 16 l.head.lost_count l.lost,
        le-leb l.head.instance_count places f.few_instances,
        f.instances,
        le-leb l.head.writer_count 128 f.few_writers,
        f.writers,
        le-leb l.head.lost_count 256 f.few_lost,
      )

-- ---- what was laid out is read back

-- records that fit, and no more than there are places
pub record Fitting (places : ℕ) (s : State) : Type 0 where
  pub instances : All FitsInstance s.instances
  pub few_instances : length s.instances ≤ places
  pub writers : All FitsWriter s.writers
  pub few_writers : length s.writers ≤ 128
  pub lost : All FitsGuid s.lost
  pub few_lost : length s.lost ≤ 256

instances-all : (xs : List Instance) → All FitsInstance xs → All (Back instance_bytes instance_of 512) xs
instances-all [] f = tt
instances-all (x ∷ xs) f =
    (record { width = length-instance x f.0; back = instance_back x f.0 }, instances-all xs f.1)

pub writers-all : (ws : List Writer) → All FitsWriter ws → All (Back writer_bytes writer_of 40) ws
writers-all [] f = tt
writers-all (w ∷ ws) f = (record { width = length-writer w; back = writer_back w f.0 }, writers-all ws f.1)

module _ (places : ℕ) (s : State) (out : List ℕ) (f : Fitting places s) where
  pens_read : instances_in (length s.instances) (lay instance_bytes 512 (places * 512) s.instances) ≡ s.instances
  unfolding lay
  pens_read = read_rows_lem instance_bytes instance_of 512 s.instances _ (instances-all s.instances f.instances)

  writers_read : writers_in (length s.writers) (lay writer_bytes 40 5120 s.writers) ≡ s.writers
  unfolding lay
  writers_read = read_rows_lem writer_bytes writer_of 40 s.writers _ (writers-all s.writers f.writers)

  lost_read : guids_in (length s.lost) (lay guid_bytes 16 4096 s.lost) ≡ s.lost
  unfolding lay
  lost_read = guids_back s.lost _ f.lost

  pub read_back : state_of (lay_out places s out) ≡ s
  unfolding lay_out state_of head_of
  read_back =
      rw (
        pens_read,
        writers_read,
        lost_read,
        less-less (pos (alive_count s.writers)) s.acknowledged_alive,
        less-less (pos (not_alive_count s.writers)) s.acknowledged_not_alive,
      )

-- ---- a layout is well formed exactly if the records are valid

kinds-laid : (xs : List Instance) (z : List ℕ) → All FitsInstance xs → kinds_ok (length xs) (rows instance_bytes xs ++ z) ≡ true
unfolding kinds_ok rows
kinds-laid [] z f = refl
kinds-laid (x ∷ xs) z f =
    let r : List ℕ = rows instance_bytes xs ++ z in
    let n : length (instance_bytes x) ≡ 512 = length-instance x f.0 in
    let e : flags_at (instance_bytes x ++ r) ≡ flags_of x.state =
    be_front 2 24 (instance_bytes x) r 512 n (omega arith) ∙ instance_flags x f.0 in
    rw (
      append_assoc (instance_bytes x) (rows instance_bytes xs) z,
      e,
      lt-ltb (flags_of x.state) 49152 (flags_small x.state f.0.state.writers.few),
      drop_at (instance_bytes x) r 512 n,
    ) (kinds-laid xs z f.1)

spares_laid : (ws : List Writer) (z : List ℕ) → All FitsWriter ws → spares_ok (length ws) (rows writer_bytes ws ++ z) ≡ true
unfolding spares_ok rows
spares_laid [] z f = refl
spares_laid (w ∷ ws) z f =
    let r : List ℕ = rows writer_bytes ws ++ z in
    let n : length (writer_bytes w) ≡ 40 = length-writer w in
    let e : writer_flags_at (writer_bytes w ++ r) ≡ writer_flags w =
    be_front 1 16 (writer_bytes w) r 40 n (omega arith) ∙ (writer_spares w f.0).0 in
    let u : be 7 (writer_bytes w ++ r) 17 ≡ 0 = be_front 7 17 (writer_bytes w) r 40 n (omega arith) ∙ (writer_spares w f.0).1 in
    rw (
      append_assoc (writer_bytes w) (rows writer_bytes ws) z,
      e,
      u,
      lt-ltb (writer_flags w) 192 (writer_apart w).small,
      eq-eqb (writer_flags w % 8) 0 (writer_apart w).spare,
      drop_at (writer_bytes w) r 40 n,
    ) (spares_laid ws z f.1)

module _ (places : ℕ) (s : State) (out : List ℕ) (f : Fitting places s) where
  kinds-in : kinds_ok (length s.instances) (lay instance_bytes 512 (places * 512) s.instances) ≡ true
  unfolding lay
  kinds-in = kinds-laid s.instances _ f.instances

  spares_in_lem : spares_ok (length s.writers) (lay writer_bytes 40 5120 s.writers) ≡ true
  unfolding lay
  spares_in_lem = spares_laid s.writers _ f.writers

  pub laid-valid : well_formed places (lay_out places s out) ≡ valid places s
  unfolding well_formed valid lay_out head_of head_ok instance_table_ok writer_table_ok lost_ok counts_ok
  laid-valid =
      rw (
        lay_rest instance_bytes instance_of 512 (places * 512) s.instances (instances-all s.instances f.instances),
        kinds-in,
        pens_read places s out f,
        lay_rest writer_bytes writer_of 40 5120 s.writers (writers-all s.writers f.writers),
        spares_in_lem,
        writers_read places s out f,
        lay_rest guid_bytes guid_of 16 4096 s.lost (guids_all s.lost f.lost),
        less-less (pos (alive_count s.writers)) s.acknowledged_alive,
        less-less (pos (not_alive_count s.writers)) s.acknowledged_not_alive,
        eq-eqb places places refl,
        eq-eqb (alive_count s.writers) (alive_count s.writers) refl,
        eq-eqb (not_alive_count s.writers) (not_alive_count s.writers) refl,
        and_true (leb (length s.lost) 256),
        and_true (leb (length s.lost) 256),
      )

-- ---- the fresh state

pub fresh-laid : (places : ℕ) (out : List ℕ) → lay_out places fresh_state out ≡ fresh places out
unfolding lay_out head_of fresh lay rows alive_count not_alive_count pick
fresh-laid places out = rw (sub-zero (places * 512))

pub fresh_fits : (places : ℕ) → Fitting places fresh_state
fresh_fits places =
    record { instances = tt; few_instances = omega arith; writers = tt; few_writers = omega arith; lost = tt; few_lost = omega arith }

pub fresh_read : (places : ℕ) (out : List ℕ) → state_of (fresh places out) ≡ fresh_state
fresh_read places out = ap state_of (sym (fresh-laid places out)) ∙ read_back places fresh_state out (fresh_fits places)

fresh-valid : (places : ℕ) → valid places fresh_state ≡ true
unfolding valid within instances_ok writers_ok rising all handles_distinct
fresh-valid places = rw (le-leb 0 places (omega arith))

pub fresh-formed : (places : ℕ) (out : List ℕ) → well_formed places (fresh places out) ≡ true
fresh-formed places out =
    ap (well_formed places) (sym (fresh-laid places out)) ∙ laid-valid places fresh_state out (fresh_fits places) ∙ fresh-valid places
