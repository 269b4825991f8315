-- `write_fields` meets its contract: one write after the other.
use Rattle.instance_encoding.proofs.write_fields.Goals as goal

pub returns : goal.returns
returns c =
    rw (
      c.put_u32.ensures,
      c.put_guid-2.ensures,
      c.write_times.ensures,
      c.write_life.ensures,
      c.put_u64.ensures,
      c.put_guid.ensures,
      c.requires.1,
    )
