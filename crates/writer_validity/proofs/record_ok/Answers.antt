-- `record_ok` meets its contract: spare bits and bytes first, then the values.
use Prim.Native.Nat.{ℕ, ◌+◌, ◌/◌, ◌%◌}
use mathlib.Core.Bool.{Bool, ◌&&◌, and-false}
use mathlib.Core.Path.{◌≡◌, refl, sym, ap, ◌∙◌}
use native.Mathlib.Omega.{arith}
use lib.Dec.{eqb}
use lib.ListN.{take, drop}
use mathlib.Core.List.{List}
use borrow.Author.Rules.{rules}
use borrow.Author.Tests.{le-ltb, lt-ltb, eq-eqb, ne_eqb}
use Rattle.octets.specs.Octets.{be}
use Rattle.octets.specs.Bounds.{Bytes}
use Rattle.model.specs.Guids.{guid_at}
use Rattle.model.specs.WellFormed.{writer_ok}
use Rattle.model.specs.WriterRecord.{writer_of}
use Rattle.writer_validity.proofs.Values.{word_high, word_low, spares_by, read_by}
use Rattle.writer_validity.proofs.record_ok.Goals as goal

-- the word is flags and spare bytes
module _ (t : List ℕ) (at word : ℕ) (b : Bytes t) (read : word ≡ be 8 t at) where
  high : word / 72057594037927936 ≡ be 1 t at
  high = ap (λ (n : ℕ). n / 72057594037927936) read ∙ word_high t at b

  low : word % 72057594037927936 ≡ be 7 t (at + 1)
  low = ap (λ (n : ℕ). n % 72057594037927936) read ∙ word_low t at b

pub returns-then-flags-ge192 : goal.returns-then-flags-ge192
returns-then-flags-ge192 c =
    let a = c.args in
    ap (λ (b : Bool). b && writer_ok (writer_of (take 40 (drop a.at a.t.now))))
    (spares_by a.t.now a.at (c.get_u64-word.result / 72057594037927936) (high a.t.now (a.at + 16) _ (search rules) c.get_u64-word.ensures) (le-ltb _ _ c.if-flags-ge192.true) refl refl)

pub returns-then-flags-ne0 : goal.returns-then-flags-ne0
returns-then-flags-ne0 c =
    let a = c.args in
    let flags = c.get_u64-word.result / 72057594037927936 in
    ap (λ (b : Bool). b && writer_ok (writer_of (take 40 (drop a.at a.t.now))))
    (spares_by a.t.now a.at flags (high a.t.now (a.at + 16) _ (search rules) c.get_u64-word.ensures) (lt-ltb _ _ c.if-flags-ge192.false) (ne_eqb (flags % 8) 0 (λ e. c.if-flags-ne0.true (omega (arith, e)))) refl)

pub returns-then-word-ne0 : goal.returns-then-word-ne0
returns-then-word-ne0 c =
    let a = c.args in
    let flags = c.get_u64-word.result / 72057594037927936 in
    ap (λ (b : Bool). b && writer_ok (writer_of (take 40 (drop a.at a.t.now))))
    (sym (and-false (eqb (flags % 8) 0))
    ∙ spares_by a.t.now a.at flags (high a.t.now (a.at + 16) _ (search rules) c.get_u64-word.ensures) (lt-ltb _ _ c.if-flags-ge192.false) refl
    (ne_eqb (be 7 a.t.now (a.at + 16 + 1)) 0 (λ e. c.if-word-ne0.true (omega (arith, low a.t.now (a.at + 16) _ (search rules) c.get_u64-word.ensures, e)))))

pub returns : goal.returns
returns c =
    let a = c.args in
    let r = take 40 (drop a.at a.t.now) in
    let flags = c.get_u64-word.result / 72057594037927936 in
    c.values_ok.ensures (guid_at r 0)
    ∙ ap writer_ok (read_by a.t.now a.at flags c.get_u64-nanos.result c.get_u64-last.result (high a.t.now (a.at + 16) _ (search rules) c.get_u64-word.ensures) c.get_u64-nanos.ensures c.get_u64-last.ensures)
    ∙ ap (λ (b : Bool). b && writer_ok (writer_of r))
    (spares_by a.t.now a.at flags (high a.t.now (a.at + 16) _ (search rules) c.get_u64-word.ensures) (lt-ltb _ _ c.if-flags-ge192.false) (eq-eqb _ 0 c.if-flags-ne0.false) (eq-eqb _ 0 (sym (low a.t.now (a.at + 16) _ (search rules) c.get_u64-word.ensures) ∙ c.if-word-ne0.false)))
