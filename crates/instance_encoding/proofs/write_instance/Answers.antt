-- `write_instance` meets its contract: fields, holder and set make the record.
use Rattle.instance_encoding.proofs.Writes.{written}
use Rattle.instance_encoding.proofs.write_instance.Goals as goal

pub returns : goal.returns
returns c =
    let h = c.write_holder in
    rw (c.write_guids.ensures, h.ensures.written, c.write_fields.ensures) (written c.args.s.now c.args.x c.requires.0 h.ensures.size)
