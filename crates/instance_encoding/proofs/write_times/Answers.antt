-- `write_times` meets its contract: one write after the other.
use Rattle.instance_encoding.proofs.write_times.Goals as goal

pub returns : goal.returns
returns c =
    rw (
      c.write_time-6.ensures,
      c.write_time-5.ensures,
      c.write_time-4.ensures,
      c.write_time-3.ensures,
      c.write_time-2.ensures,
      c.write_time.ensures,
    )
