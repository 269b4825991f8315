-- `on_every` meets its contract: by the call's row.
use Rattle.instance_calls.proofs.on_every.Goals as goal

pub returns : goal.returns
returns c = rw (← c.rule_of-r.ensures) c.is_every.ensures
