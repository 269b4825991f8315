-- The test of head and buffers together, from its parts.
--     formed_by       the whole test, from its parts in the order of the code
--     parts           its parts, from the whole test
use Prim.Native.Nat.{ℕ}
use mathlib.Core.Bool.{Bool, true, false, ◌&&◌, and-false}
use mathlib.Core.List.{List}
use mathlib.Core.Path.{◌≡◌, refl, sym}
use borrow.Author.Tests.{eq-eqb}
use lib.Dec.{eqb}
use Rattle.model.specs.declared.Head.{Head}
use Rattle.model.specs.Call.{lent_of}
use Rattle.model.specs.State.{Lent, writers_in}
use Rattle.model.specs.WellFormed.{head_ok, instance_table_ok, writer_table_ok, lost_ok, counts_ok, well_formed}
use Rattle.model.proofs.Tests.{both}

counts-first : (w l n : Bool) → (w && (l && n)) ≡ ((w && n) && l)
counts-first true true true = refl
counts-first true true false = refl
counts-first true false n = sym (and-false n)
counts-first false l n = refl

pub formed_by : (places : ℕ) (h : Head) (pens writers lost out : List ℕ) → h.places ≡ places → {a b c d : Bool} → head_ok h ≡ a →
    instance_table_ok places h.instance_count h.next_handle.0 pens ≡ b →
    (writer_table_ok h.writer_count writers && counts_ok h (writers_in h.writer_count writers)) ≡ c → lost_ok h.lost_count lost ≡ d →
    (a && (b && (c && d))) ≡ well_formed places (lent_of h pens writers lost out)
unfolding well_formed
formed_by places h pens writers lost out figure p q r s =
    sym
    (rw (
      eq-eqb h.places places figure,
      counts-first (writer_table_ok h.writer_count writers) (lost_ok h.lost_count lost) (counts_ok h (writers_in h.writer_count writers)),
      p,
      q,
      r,
      s,
    ))

-- its parts, from the test
pub record Parts (places : ℕ) (l : Lent) : Type 0 where
  pub head : head_ok l.head ≡ true
  pub pens : instance_table_ok places l.head.instance_count l.head.next_handle.0 l.pens ≡ true
  pub writers : writer_table_ok l.head.writer_count l.writers ≡ true
  pub lost : lost_ok l.head.lost_count l.lost ≡ true
  pub counts : counts_ok l.head (writers_in l.head.writer_count l.writers) ≡ true

pub parts : (places : ℕ) (l : Lent) → well_formed places l ≡ true → Parts places l
unfolding well_formed
parts places l e =
    let o = both (eqb l.head.places places) _ e in
    let p = both _ _ o.1 in
    let q = both _ _ p.1 in
    let r = both _ _ q.1 in
    let s = both _ _ r.1 in
    record { head = p.0; pens = q.0; writers = r.0; lost = s.0; counts = s.1 }
