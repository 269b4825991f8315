-- `holder_at` meets its contract: the flags and the length are those of the record.
use mathlib.Core.Path.{◌∙◌}
use Rattle.instance_reads.proofs.Stored.{stored_none, stored_here}
use Rattle.instance_reads.proofs.holder_at.Goals as goal

pub returns-then-f-ne1 : goal.returns-then-f-ne1
returns-then-f-ne1 c = c.nowhere.ensures ∙ stored_none _ _ _ c.get_u16-f.ensures c.if-f-ne1.true

pub returns : goal.returns
returns c = stored_here _ _ _ c.get_u16-f.ensures _ c.get_u16-n.ensures c.if-f-ne1.false
