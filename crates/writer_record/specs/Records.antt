-- One record of the writer table.
use Rattle.std.specs.Prelude.{ℕ, ◌/◌, ◌%◌, Bool, ◌&&◌, List, eqb, ltb}
use Rattle.octets.specs.Octets.{be}
use Rattle.model.specs.declared.Guid.{Guid}
use Rattle.model.specs.declared.Writer.{Writer}
use Rattle.model.specs.declared.WriterState.TheVariants.{NotAlive}
use Rattle.model.specs.InstanceRecord.{flag}
use Rattle.model.specs.WriterRecord.{liveliness_numbered, state_numbered, writer_flags_at}
use Rattle.model.specs.Writers.{with_state}

-- kind is no 3, and the spare bits and bytes are zero: what model's spares_ok asks of each record
abbrev pub spares_in : List ℕ → Bool
spares_in t = ltb (writer_flags_at t) 192 && (eqb (writer_flags_at t % 8) 0 && eqb (be 7 t 17) 0)

-- the writer of the fields that are read
abbrev pub writer_from : Guid → ℕ → ℕ → ℕ → Writer
writer_from guid flags nanos last =
    record {
      guid = guid;
      liveliness = record {
        kind = liveliness_numbered (flags / 64);
        state = state_numbered (flags / 16 % 4);
        lease = record { present = flag 8 flags; nanos = nanos };
        last_assertion = last;
      };
    }

-- the writer whose lease ran out: not alive, and asserted when it was
abbrev pub lapsed : Writer → Writer
lapsed w = with_state NotAlive w.liveliness.last_assertion w
