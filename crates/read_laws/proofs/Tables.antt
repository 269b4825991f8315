-- Refusal 3 of the instance table alone: `table_refusal` of pens of their length is 3 exactly if no head and no other buffers
-- make them well formed.
--     formed-used, formed-table      of a well-formed state: the records that a read takes as used, and that it takes the table
--     table-3          3: no head and no buffers do
--     table-0          0: some head and buffers of their lengths do
--     only-table-3     so where none do, it is 3
use Prim.Native.Nat.{ℕ, zero, suc, ◌+◌, ◌*◌, ◌^◌, ◌≤◌}
use mathlib.Core.Bool.{Bool, true, false, ◌&&◌, cond}
use mathlib.Core.List.{List, [], ◌∷◌}
use mathlib.Core.Logic.{◌≢◌}
use mathlib.Core.Path.{◌≡◌, refl, sym, ap, ◌∙◌}
use native.Mathlib.Nat.{suc-mul}
use native.Mathlib.Omega.{arith}
use borrow.Author.Tests.{eqb-true, leb-true, ltb-true, le-leb, lt-ltb, eq-eqb, ne_eqb}
use lib.Dec.{eqb, leb, ltb}
use lib.IntN.{pos}
use lib.ListN.{length, get_or, take, drop, length-replicate}
use lib.Seq.{get_or-take, drop-drop}
use Rattle.octets.proofs.Laws.{be-same}
use Rattle.octets.specs.Octets.{be}
use Rattle.octets.specs.Zeros.{all_zero}
use Rattle.model.specs.declared.Head.{Head}
use Rattle.model.specs.declared.Instance.{Instance}
use Rattle.std.specs.Prelude.{None}
use Rattle.model.specs.Call.{lent_of}
use Rattle.model.specs.Handles.{handle}
use Rattle.model.specs.InstanceRecord.{instance_of}
use Rattle.model.specs.Layout.{read_rows}
use Rattle.model.specs.Reads.{used_in, table_ok, table_refusal}
use Rattle.model.specs.State.{Lent, fresh, instance_key, instances_in, writers_in}
use Rattle.model.specs.Tables.{all, rising}
use Rattle.model.specs.WellFormed.{instance_ok, handle_below, handles_distinct, instances_ok, instance_table_ok, writer_table_ok, lost_ok, counts_ok, within, head_ok, well_formed}
use Rattle.model.proofs.Tests.{both, split}
use Rattle.accounts.proofs.Basics.{never}
use Rattle.model.proofs.StateLaws.{formed_facts, fresh-formed}

-- ---- small things

-- a list of zeros has zeros in every place, and its numbers are 0
get-zero : (s : List ℕ) (i : ℕ) → all_zero s ≡ true → get_or s i 0 ≡ 0
unfolding all_zero
get-zero [] i e = refl
get-zero (x ∷ s) zero e = eqb-true x 0 (both (eqb x 0) (all_zero s) e).0
get-zero (x ∷ s) (suc i) e = get-zero s i (both (eqb x 0) (all_zero s) e).1

be-zero : (k : ℕ) (s : List ℕ) (at : ℕ) → all_zero s ≡ true → be k s at ≡ 0
unfolding be
be-zero zero s at e = refl
be-zero (suc k) s at e = omega (arith, be-zero k s at e, get-zero s (at + k) e)

-- ---- the used records are those that a head counts

first-handle : (t : List ℕ) → (instance_of (take 512 t)).handle.0 ≡ be 8 t 16
unfolding instance_of
first-handle t = be-same 8 (take 512 t) t 16 (λ i a b. get_or-take 512 t i 0 (omega arith))

used_are : (places n next : ℕ) (t : List ℕ) → n ≤ places → all_zero (drop (n * 512) t) ≡ true →
    all (handle_below next) (instances_in n t) ≡ true → used_in places t ≡ n
unfolding used_in
used_are zero zero next t h z a = refl
used_are zero (suc n) next t h z a = absurd (omega arith)
used_are (suc places) zero next t h z a =
    let e : be 8 t 16 ≡ 0 = be-zero 8 t 16 z in rw e
used_are (suc places) (suc n) next t h z a =
    let p = both (handle_below next (instance_of (take 512 t))) (all (handle_below next) (instances_in n (drop 512 t))) (unfold all read_rows in a) in
    let q = both (leb 1 (instance_of (take 512 t)).handle.0) (ltb (instance_of (take 512 t)).handle.0 next) p.0 in
    let m : be 8 t 16 ≢ 0 = λ e. absurd (omega (arith, leb-true 1 (instance_of (take 512 t)).handle.0 q.0, first-handle t)) in
    let k : 512 + n * 512 ≡ suc n * 512 = omega (arith, suc-mul n 512) in
    let r : all_zero (drop (n * 512) (drop 512 t)) ≡ true =
    ap all_zero (drop-drop (n * 512) 512 t ∙ ap (λ (i : ℕ). drop i t) k) ∙ z in
    rw (ne_eqb (be 8 t 16) 0 m) (ap suc (used_are places n next (drop 512 t) (omega arith) r p.1))

-- ---- handles below the next are below 2^63

below_top : (next : ℕ) (xs : List Instance) → next ≤ 2 ^ 63 → all (handle_below next) xs ≡ true → all (handle_below (2 ^ 63)) xs ≡ true
unfolding all
below_top next [] h a = refl
below_top next (x ∷ xs) h a =
    let p = both (handle_below next x) (all (handle_below next) xs) a in
    let q = both (leb 1 x.handle.0) (ltb x.handle.0 next) p.0 in
    rw (q.0, lt-ltb x.handle.0 (2 ^ 63) (omega (arith, ltb-true x.handle.0 next q.1))) (below_top next xs h p.1)

-- the next handle is from 1 to 2^63
pub next-within : (h : Head) → head_ok h ≡ true → (1 ≤ h.next_handle.0) × (h.next_handle.0 ≤ 2 ^ 63)
unfolding head_ok
next-within h e =
    let n = h.next_handle.0 in
    let p = both (leb 1 n) (leb n (2 ^ 63)) (both (leb 1 n && leb n (2 ^ 63)) _ e).0 in
    (leb-true 1 n p.0, leb-true n (2 ^ 63) p.1)

-- what is asked of the records
pub record Asked (next : ℕ) (xs : List Instance) : Type 0 where
  pub rises : rising instance_key xs ≡ true
  pub each : all instance_ok xs ≡ true
  pub below : all (handle_below next) xs ≡ true
  pub distinct : handles_distinct xs ≡ true

pub asked_of : (next : ℕ) (xs : List Instance) → instances_ok next xs ≡ true → Asked next xs
unfolding instances_ok
asked_of next xs e =
    let p = both (rising instance_key xs) _ e in
    let q = both (all instance_ok xs) _ p.1 in
    let r = both (all (handle_below next) xs) (handles_distinct xs) q.1 in
    record { rises = p.0; each = q.0; below = r.0; distinct = r.1 }

instances_top : (next : ℕ) (xs : List Instance) → next ≤ 2 ^ 63 → instances_ok next xs ≡ true → instances_ok (2 ^ 63) xs ≡ true
unfolding instances_ok
instances_top next xs h e = let p = asked_of next xs e in rw (p.rises, p.each, below_top next xs h p.below, p.distinct)

-- ---- the table of a well-formed state

pub formed-used : (places : ℕ) (l : Lent) → well_formed places l ≡ true → used_in places l.pens ≡ l.head.instance_count
formed-used places l e =
    let f = formed_facts places l e in
    let n = l.head.instance_count in
    let next = l.head.next_handle.0 in
    used_are places n next l.pens f.few_instances f.rest_of_pens (asked_of next (instances_in n l.pens) f.instances).below

pub formed-table : (places : ℕ) (l : Lent) → well_formed places l ≡ true → table_ok places l.pens ≡ true
unfolding table_ok instance_table_ok
formed-table places l e =
    let f = formed_facts places l e in
    let n = l.head.instance_count in
    let next = l.head.next_handle.0 in
    rw (formed-used places l e, le-leb n places f.few_instances, f.rest_of_pens, f.kinds)
    (instances_top next (instances_in n l.pens) (next-within l.head f.head).1 f.instances)

-- ---- a head and buffers for a table

abbrev head_for : ℕ → ℕ → Head
head_for places n =
    record {
      instance_count = n;
      next_handle = handle (2 ^ 63);
      writer_count = 0;
      lost_count = 0;
      alive = 0;
      not_alive = 0;
      alive_change = pos 0;
      not_alive_change = pos 0;
      last_writer = None;
      changes = 0;
      places = places;
    }

-- the table with the fresh state's other buffers
lent_for : ℕ → List ℕ → Lent
lent_for places t = lent_of (head_for places (used_in places t)) t (fresh places []).writers (fresh places []).lost []

head_for_lem : (places n : ℕ) → head_ok (head_for places n) ≡ true
unfolding head_ok within
head_for_lem places n = refl

fresh_rest : (places : ℕ) (t : List ℕ) → table_ok places t ≡ true → well_formed places (lent_for places t) ≡ true
unfolding lent_for well_formed table_ok fresh used_in counts_ok
fresh_rest places t e =
    let w : well_formed places (fresh places []) ≡ true = fresh-formed places [] in
    let l : Lent = fresh places [] in
    let r : Bool =
    writer_table_ok 0 l.writers && (lost_ok 0 l.lost && counts_ok l.head (writers_in 0 l.writers)) in
    let o = both (eqb places places) (head_ok l.head && (instance_table_ok places 0 1 l.pens && r)) w in
    let p = both (head_ok l.head) (instance_table_ok places 0 1 l.pens && r) o.1 in
    let q = both (instance_table_ok places 0 1 l.pens) r p.1 in
    rw (o.0, head_for_lem places (used_in places t), e) q.1

-- ---- the claim

pub record Formable (places : ℕ) (t : List ℕ) : Type 0 where
  pub lent : Lent
  pub pens : lent.pens ≡ t
  pub writers_length : length lent.writers ≡ 5120
  pub lost_length : length lent.lost ≡ 4096
  pub formed : well_formed places lent ≡ true

module _ (places : ℕ) (t : List ℕ) (size : length t ≡ places * 512) where
  by_form : table_refusal places t ≡ cond (table_ok places t) 0 3
  unfolding table_refusal
  by_form = rw (eq-eqb (length t) (places * 512) size)

  not-formed : table_refusal places t ≡ 3 → table_ok places t ≡ false
  not-formed e = split (table_ok places t) (λ f. let z : table_refusal places t ≡ 0 = by_form ∙ rw f in absurd (omega (arith, e))) (λ f. f)

  pub table-3 : table_refusal places t ≡ 3 → (l : Lent) → l.pens ≡ t → well_formed places l ≡ false
  table-3 e l p =
      split (well_formed places l)
      (λ w. never (sym (formed-table places l w) ∙ ap (table_ok places) p ∙ not-formed e))
      (λ w. w)

  pub table-0 : table_refusal places t ≡ 0 → Formable places t
  table-0 e =
      split (table_ok places t)
      (λ f. unfold lent_for fresh in
      record {
        lent = lent_for places t;
        pens = refl;
        writers_length = length-replicate {A = ℕ} 5120 0;
        lost_length = length-replicate {A = ℕ} 4096 0;
        formed = fresh_rest places t f;
      })
      (λ f. let z : table_refusal places t ≡ 3 = by_form ∙ rw f in absurd (omega (arith, e)))

  pub only-table-3 : (Formable places t → ⊥) → table_refusal places t ≡ 3
  only-table-3 none = split (table_ok places t) (λ f. absurd (none (table-0 (by_form ∙ rw f)))) (λ f. by_form ∙ rw f)
