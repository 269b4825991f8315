-- Refusal 3 of the head alone: `head_alone` holds of a head exactly if its figure is one of the two and some buffers make it well
-- formed.
--     formed-head      of the head of a well-formed state it holds
--     head_made        where it holds, buffers of their lengths are well formed with it
--     head-3, only-head-3      so a head is refused as 3 exactly if its figure is another or no buffers do
use Prim.Native.Nat.{ℕ, ◌+◌, ◌-◌, ◌*◌, ◌^◌, ◌≤◌, ◌<◌}
use mathlib.Core.Bool.{true, false, ◌&&◌}
use mathlib.Core.List.{List, []}
use mathlib.Core.Path.{◌≡◌, sym, ap, ◌∙◌}
use native.Mathlib.Omega.{arith}
use borrow.Author.Tests.{leb-true, ltb-true, le-leb, lt-ltb}
use lib.Dec.{leb}
use lib.IntN.{pos, ◌-ℤ◌}
use lib.ListN.{length, replicate, length-replicate}
use Rattle.model.specs.declared.Head.{Head}
use Rattle.model.specs.declared.Instance.{Instance}
use Rattle.model.specs.Guids.{nil}
use Rattle.model.specs.InstanceRecord.{instance_of}
use Rattle.model.specs.Reads.{head_alone}
use Rattle.model.specs.State.{Lent, State, figure_ok, head_of, lay_out, alive_count, not_alive_count, instances_in, writers_in}
use Rattle.model.specs.WellFormed.{within, head_ok, well_formed, valid}
use Rattle.model.specs.WriterRecord.{writer_of}
use Rattle.model.proofs.RowLaws.{length_read}
use Rattle.model.proofs.Tests.{both, split, less-less}
use Rattle.model.proofs.StateLaws.{Formed, formed_facts, Fitting, laid-valid}
use Rattle.accounts.proofs.Basics.{never}
use Rattle.accounts.proofs.InStep.{laid_sizes}
use Rattle.accounts.proofs.Sound.{nils_fit}
use Rattle.read_laws.proofs.Counts.{handles-few, classes_few}
use Rattle.read_laws.proofs.Makings.{instances_from, length-instances, instances-ok, instances_fit, writers_from, length-writers, writers-ok, writers_fit, classes, length_classes, alive_are, not_alive_are}
use Rattle.read_laws.proofs.Tables.{next-within, asked_of}

-- ---- the head of a well-formed state

module _ (places : ℕ) (ok : figure_ok places ≡ true) (l : Lent) (formed : well_formed places l ≡ true) where
  abbrev h : Head
  h = l.head

  facts : Formed places l
  facts = formed_facts places l formed

  few-handles : h.instance_count < h.next_handle.0
  few-handles =
      let xs : List Instance = instances_in h.instance_count l.pens in
      let p = asked_of h.next_handle.0 xs facts.instances in
      let n : length xs ≡ h.instance_count = length_read instance_of 512 h.instance_count l.pens in
      let m : length xs < h.next_handle.0 = handles-few h.next_handle.0 xs (next-within h facts.head).0 p.distinct p.below in
      omega arith

  few_classes : h.alive + h.not_alive ≤ h.writer_count
  few_classes =
      let ws = writers_in h.writer_count l.writers in
      let a : h.alive ≡ alive_count ws = facts.alive in
      let b : h.not_alive ≡ not_alive_count ws = facts.not_alive in
      let n : length ws ≡ h.writer_count = length_read writer_of 40 h.writer_count l.writers in
      let m : alive_count ws + not_alive_count ws ≤ length ws = unfold alive_count not_alive_count in classes_few ws in
      omega arith

  pub formed-head : head_alone h ≡ true
  unfolding head_alone
  formed-head =
      let one : figure_ok h.places ≡ true = ap figure_ok facts.figure ∙ ok in
      let few : h.instance_count ≤ h.places = omega (arith, facts.figure, facts.few_instances) in
      rw (
        one,
        facts.head,
        le-leb h.instance_count h.places few,
        lt-ltb h.instance_count h.next_handle.0 few-handles,
        le-leb h.writer_count 128 facts.few_writers,
        le-leb (h.alive + h.not_alive) h.writer_count few_classes,
        le-leb h.lost_count 256 facts.few_lost,
      )

-- ---- buffers for a head

-- a head that stands alone, as plain facts
record Alone (h : Head) : Type 0 where
  figure : figure_ok h.places ≡ true
  head : head_ok h ≡ true
  instances : h.instance_count ≤ h.places
  handles : h.instance_count < h.next_handle.0
  writers : h.writer_count ≤ 128
  classes : h.alive + h.not_alive ≤ h.writer_count
  lost : h.lost_count ≤ 256

alone_facts : (h : Head) → head_alone h ≡ true → Alone h
unfolding head_alone
alone_facts h e =
    let z = both _ _ e in
    let a = both _ _ z.1 in
    let b = both _ _ a.1 in
    let c = both _ _ b.1 in
    let d = both _ _ c.1 in
    let f = both _ _ d.1 in
    record {
      figure = z.0;
      head = a.0;
      instances = leb-true _ _ b.0;
      handles = ltb-true _ _ c.0;
      writers = leb-true _ _ d.0;
      classes = leb-true _ _ f.0;
      lost = leb-true _ _ f.1;
    }

pub record FormableHead (h : Head) : Type 0 where
  pub figure : figure_ok h.places ≡ true
  pub lent : Lent
  pub head : lent.head ≡ h
  pub pens_length : length lent.pens ≡ h.places * 512
  pub writers_length : length lent.writers ≡ 5120
  pub lost_length : length lent.lost ≡ 4096
  pub formed : well_formed h.places lent ≡ true

module _ (h : Head) (f : Alone h) where
  abbrev places : ℕ
  places = h.places

  rest : ℕ
  rest = h.writer_count - (h.alive + h.not_alive)

  -- instances and writers as many as the head counts, in its classes
  state : State
  state =
      record {
        instances = instances_from 1 h.instance_count;
        next_handle = h.next_handle.0;
        writers = writers_from 1 (classes h.alive h.not_alive rest);
        lost = replicate h.lost_count nil;
        acknowledged_alive = pos h.alive -ℤ h.alive_change;
        acknowledged_not_alive = pos h.not_alive -ℤ h.not_alive_change;
        last_writer = h.last_writer;
        changes = h.changes;
      }

  many : length state.writers ≡ h.writer_count
  unfolding state rest
  many =
      length-writers 1 (classes h.alive h.not_alive rest)
      ∙ length_classes h.alive h.not_alive rest ∙ omega (arith, f.classes)

  counted : length (classes h.alive h.not_alive rest) ≡ h.writer_count
  unfolding rest
  counted = length_classes h.alive h.not_alive rest ∙ omega (arith, f.classes)

  head-is : head_of places state ≡ h
  unfolding head_of
  head-is =
      let n : length state.instances ≡ h.instance_count = unfold state in length-instances 1 h.instance_count in
      let l : length state.lost ≡ h.lost_count = unfold state in length-replicate h.lost_count nil in
      let a : alive_count state.writers ≡ h.alive = unfold state in alive_are 1 h.alive h.not_alive rest in
      let b : not_alive_count state.writers ≡ h.not_alive = unfold state in not_alive_are 1 h.alive h.not_alive rest in
      rw (n, many, l, a, b)
      (unfold state in rw (less-less (pos h.alive) h.alive_change, less-less (pos h.not_alive) h.not_alive_change))

  fits : Fitting places state
  unfolding state
  fits =
      record {
        instances = instances_fit 1 h.instance_count (omega (arith, f.handles, (next-within h f.head).1));
        few_instances = omega (arith, length-instances 1 h.instance_count, f.instances);
        writers = writers_fit 1 (classes h.alive h.not_alive rest) (omega (arith, counted, f.writers));
        few_writers = omega (arith, length-writers 1 (classes h.alive h.not_alive rest), counted, f.writers);
        lost = nils_fit h.lost_count;
        few_lost = omega (arith, length-replicate h.lost_count nil, f.lost);
      }

  is-valid : valid places state ≡ true
  unfolding valid state
  is-valid =
      let n : length (instances_from 1 h.instance_count) ≡ h.instance_count = length-instances 1 h.instance_count in
      let w : length (writers_from 1 (classes h.alive h.not_alive rest)) ≡ h.writer_count =
      length-writers 1 (classes h.alive h.not_alive rest) ∙ counted in
      let l : length (replicate h.lost_count nil) ≡ h.lost_count = length-replicate h.lost_count nil in
      let ok : ((leb 1 h.next_handle.0 && leb h.next_handle.0 (2 ^ 63))
      && (within (pos h.alive -ℤ h.alive_change) && within (pos h.not_alive -ℤ h.not_alive_change))) ≡ true =
      unfold head_ok in f.head in
      rw (
        ok,
        n,
        w,
        l,
        le-leb h.instance_count places f.instances,
        instances-ok h.next_handle.0 1 h.instance_count (omega arith) (omega (arith, f.handles)),
        le-leb h.writer_count 128 f.writers,
        writers-ok 1 (classes h.alive h.not_alive rest),
        le-leb h.lost_count 256 f.lost,
      )

  made : FormableHead h
  made =
      let s = laid_sizes places state [] fits in
      record {
        figure = f.figure;
        lent = lay_out places state [];
        head = unfold lay_out in head-is;
        pens_length = s.pens;
        writers_length = s.writers;
        lost_length = s.lost;
        formed = laid-valid places state [] fits ∙ is-valid;
      }

-- ---- the claim

module _ (h : Head) where
  pub head_made : head_alone h ≡ true → FormableHead h
  head_made e = made h (alone_facts h e)

  pub head-3 : head_alone h ≡ false → (places : ℕ) → figure_ok places ≡ true → (l : Lent) → l.head ≡ h → well_formed places l ≡ false
  head-3 e places ok l q =
      split (well_formed places l)
      (λ w. never (sym (formed-head places ok l w) ∙ ap head_alone q ∙ e))
      (λ w. w)

  pub only-head-3 : (FormableHead h → ⊥) → head_alone h ≡ false
  only-head-3 none = split (head_alone h) (λ e. absurd (none (head_made e))) (λ e. e)
