-- Passes over the writers: what is told of one and of all.
use Rattle.std.specs.Prelude.{ℕ, ◌+◌, ◌-◌, ◌*◌, ◌≤◌, ◌<◌, ◌^◌, min, Bool, true, not, ◌&&◌, cond, ◌≡◌, List, map, leb, length, take, drop, Some}
use Rattle.octets.specs.Lay.{lay}
use Rattle.model.specs.declared.MaybeDue.{MaybeDue}
use Rattle.model.specs.declared.Writer.{Writer}
use Rattle.model.specs.declared.WriterState.{WriterState}
use Rattle.model.specs.State.{class_of, counts_alive, counts_not_alive, alive_count, not_alive_count, writers_in, LastWriter}
use Rattle.model.specs.Tables.{pick, all}
use Rattle.model.specs.WellFormed.{writer_ok}
use Rattle.model.specs.Writers.{covers, renews, expires, expired, same_class, last_after, guid_in, next_due}
use Rattle.model.specs.WriterRecord.{writer_of, writer_bytes}
use Rattle.writer_effects.specs.declared.Assertion.{Assertion}
use Rattle.writer_effects.specs.Acts.{assertion_of}
use Rattle.writer_pass.specs.declared.Counts.{Counts}
use Rattle.writer_pass.specs.declared.Dues.{Dues}
use Rattle.writer_pass.specs.declared.Tally.{Tally}

abbrev pub counts_of : List Writer → Counts
counts_of ws = record { alive = alive_count ws; not_alive = not_alive_count ws }

-- the writer of record i
abbrev pub writer_in : List ℕ → ℕ → Writer
writer_in t i = writer_of (take 40 (drop (i * 40) t))

-- clock and lease of a writer are below 2^62, so that their sum fits
abbrev pub Bounded : Writer → Type 0
Bounded w = (w.liveliness.last_assertion < 2 ^ 62) × (w.liveliness.lease.nanos < 2 ^ 62)

-- what a pass may rely on in a table that is well formed
pub record Sound (count : ℕ) (t : List ℕ) : Type 0 where
  pub few : count ≤ 128
  pub room : count * 40 ≤ length t
  pub laid : lay writer_bytes 40 (length t) (writers_in count t) ≡ t
  pub ok : all writer_ok (writers_in count t) ≡ true

-- ---- one writer

-- the assertion covers the writer and acts on it
abbrev pub acts : Assertion → Writer → Bool
acts a w = covers (assertion_of a) w && renews (assertion_of a) w

-- two states are of different classes
abbrev pub differs : WriterState → WriterState → Bool
differs was is = not (same_class (class_of was) (class_of is))

-- f changes the writer's class
abbrev pub shifts_by : (Writer → Writer) → Writer → Bool
shifts_by f w = differs w.liveliness.state (f w).liveliness.state

-- ---- what is told of all

-- the tally once w is alive: where it was not, it moves to the alive ones from the class that it was of
abbrev pub raised : Tally → Writer → Tally
raised tally w =
    cond (counts_alive w) tally
    record {
      counts = record {
        alive = tally.counts.alive + 1;
        not_alive = cond (counts_not_alive w) (tally.counts.not_alive - 1) tally.counts.not_alive;
      };
      moved = tally.moved + 1;
      last = Some w.guid;
    }

-- the whole tally of a turn of each writer by f: the classes after it, those that changed, and the last writer after them
unfoldable pub tally_of : (Writer → Writer) → LastWriter → List Writer → Tally
tally_of f last ws =
    record {
      counts = counts_of (map f ws);
      moved = length (pick (shifts_by f) ws);
      last = last_after (map guid_in (pick (shifts_by f) ws)) last;
    }

-- ---- leases

-- the earlier of a lease that runs out at `due` and one that is due
abbrev pub soonest : ℕ → MaybeDue → MaybeDue
soonest due d = record { present = true; at = cond d.present (min due d.at) due }

-- the dues with one writer more, whose lease runs out at `due`
abbrev pub dues_with : Dues → ℕ → ℕ → Dues
dues_with d due clock =
    cond (leb due clock) record { gone = d.gone + 1; next = d.next } record { gone = d.gone; next = soonest due d.next }

-- how many expire, and the next lease due once they have
abbrev pub dues_of : ℕ → List Writer → Dues
dues_of clock ws = record { gone = length (pick (expires clock) ws); next = next_due (map (expired clock) ws) }
