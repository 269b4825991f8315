-- `joined_calls::with_list` meets its contract.
use Rattle.joined_calls.proofs.with_list.Goals as goal

pub returns : goal.returns
returns c = rw c.saying_due.ensures
