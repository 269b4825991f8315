-- `writer_liveliness::assert_on` meets its contract.
use Prim.Native.Nat.{ℕ}
use mathlib.Core.Path.{◌≡◌, ap, ◌∙◌}
use Rattle.writer_counts.specs.Turns.{called_by}
use Rattle.writer_counts.proofs.Calling.{room_pass}
use Rattle.writer_pass.specs.declared.Counts.{Counts}
use Rattle.writer_effects.specs.Acts.{assertion_of}
use Rattle.model.proofs.RowLaws.{length_read}
use Rattle.model.specs.State.{writers_in}
use Rattle.model.specs.Writers.{asserted}
use Rattle.model.specs.WriterRecord.{writer_of}
use Rattle.writer_liveliness.proofs.assert_on.Goals as goal

same-counts : (x y p q : ℕ) → x ≡ p → y ≡ q → ◌≡◌ {A = Counts} record { alive = x; not_alive = y } record { alive = p; not_alive = q }
same-counts x y p q e f = rw (e, f)

pub assert_writers-tally-requires : goal.assert_writers-tally-requires
assert_writers-tally-requires c =
    (c.requires.sound, c.requires.rises, same-counts _ _ _ _ c.requires.alive c.requires.not_alive)

pub called-requires : goal.called-requires
called-requires c =
    room_pass c.args.head c.args.count c.args.writers.now c.requires (asserted (assertion_of c.args.a)) c.args.head.last_writer
    c.assert_writers-tally.result (writers_in c.args.count c.args.writers.now)
    (rw (length_read writer_of 40 c.args.count c.args.writers.now) c.requires.sound.few) c.assert_writers-tally.ensures.1

pub returns : goal.returns
returns c =
    (c.assert_writers-tally.ensures.0, c.called.ensures ∙ ap (called_by c.args.head c.args.count) c.assert_writers-tally.ensures.1)
