-- A handle is noted.
use Rattle.instance_pass.proofs.note.Goals as goal

pub returns-then-yes : goal.returns-then-yes
returns-then-yes c = rw c.if-yes.true c.put_u64.ensures
