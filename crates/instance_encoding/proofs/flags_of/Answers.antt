-- `flags_of` meets its contract: a chain of bits.
use Rattle.model.specs.InstanceRecord.{flags_of}
use Rattle.instance_encoding.proofs.flags_of.Goals as goal

pub returns : goal.returns
unfolding flags_of
returns c =
    rw (
      c.push-i.ensures.0,
      c.push-h.ensures.0,
      c.push-g.ensures.0,
      c.push-f.ensures.0,
      c.push-e.ensures.0,
      c.push-d.ensures.0,
      c.push-c.ensures.0,
      c.push-b.ensures.0,
      c.push-a.ensures.0,
      c.kind_number.ensures.0,
    )
