-- `writer_liveliness::lost_at` meets its contract.
use Prim.Native.Nat.{ℕ}
use mathlib.Core.Logic.{◌⊎◌, inl, inr}
use mathlib.Core.Path.{◌≡◌, sym, ap, ◌∙◌}
use native.Mathlib.Omega.{arith}
use Rattle.model.specs.declared.WriterState.{WriterState}
use Rattle.model.specs.declared.WriterState.TheVariants.{Alive, NotAlive, Departed}
use Rattle.model.specs.WriterRecord.{state_number}
use Rattle.writer_counts.proofs.Calls.{lost-gone, lost-departs, place_of}
use Rattle.writer_counts.proofs.Holding.{good}
use borrow.Author.Rules.{rules}
use Rattle.writer_liveliness.proofs.lost_at.Goals as goal

-- a state that is one of the other three is not that of a writer that asserted nothing
asserted_once : (st : WriterState) → (st ≡ Alive) ⊎ ((st ≡ NotAlive) ⊎ (st ≡ Departed)) → state_number st ≡ 0 → ⊥
asserted_once st (inl e) z = let o : ◌≡◌ {A = ℕ} 1 0 = sym (ap state_number e) ∙ z in omega arith
asserted_once st (inr (inl e)) z = let o : ◌≡◌ {A = ℕ} 2 0 = sym (ap state_number e) ∙ z in omega arith
asserted_once st (inr (inr e)) z = let o : ◌≡◌ {A = ℕ} 3 0 = sym (ap state_number e) ∙ z in omega arith

pub writer_at-w-requires : goal.writer_at-w-requires
writer_at-w-requires c =
    let g = good c.args.head c.args.writers.now (search rules) c.requires.0 in
    omega
    (arith, g.ready.sound.room, place_of c.args.sheet c.args.head c.args.writers.now (search rules) c.requires.0 c.args.i c.requires.1)

pub removed-requires : goal.removed-requires
removed-requires c = (
  c.requires.0,
  place_of c.args.sheet c.args.head c.args.writers.now (search rules) c.requires.0 c.args.i c.requires.1,
)

pub returns-in-Unasserted : goal.returns-in-Unasserted
returns-in-Unasserted c =
    lost-gone c.args.sheet c.args.head c.args.writers.now (search rules) c.requires.0 c.args.i c.requires.1
    c.writer_at-w.result c.writer_at-w.ensures (ap state_number c.in-Unasserted.is)
    c.removed.result c.removed.new.writers c.removed.ensures.1 c.removed.ensures.0

pub departed_at-requires : goal.departed_at-requires
departed_at-requires c = (
  c.requires.0,
  place_of c.args.sheet c.args.head c.args.writers.now (search rules) c.requires.0 c.args.i c.requires.1,
)

pub returns-in-Alive : goal.returns-in-Alive
returns-in-Alive c =
    lost-departs c.args.sheet c.args.head c.args.writers.now (search rules) c.requires.0 c.args.i c.requires.1
    c.writer_at-w.result c.writer_at-w.ensures (asserted_once _ c.in-Alive.is)
    c.departed_at.result c.departed_at.new.writers c.departed_at.ensures.1 c.departed_at.ensures.0
