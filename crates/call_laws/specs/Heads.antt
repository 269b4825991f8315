-- What a call leaves by value.
use Rattle.std.specs.Prelude.{ℕ}
use Rattle.model.specs.declared.Answer.{Answer}
use Rattle.model.specs.declared.Called.{Called}
use Rattle.model.specs.declared.Head.{Head}
use Rattle.model.specs.declared.InstanceHandle.{InstanceHandle}

abbrev pub called : Answer → Head → Called
called a h = record { answer = a; head = h }

-- a head with another instance count and next handle
abbrev pub head_with : Head → ℕ → InstanceHandle → Head
head_with h count next =
    record {
      instance_count = count;
      next_handle = next;
      writer_count = h.writer_count;
      lost_count = h.lost_count;
      alive = h.alive;
      not_alive = h.not_alive;
      alive_change = h.alive_change;
      not_alive_change = h.not_alive_change;
      last_writer = h.last_writer;
      changes = h.changes;
      places = h.places;
    }
