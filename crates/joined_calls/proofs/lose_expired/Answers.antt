-- `joined_calls::lose_expired` meets its contract: the part of Lost that is lent.
use Rattle.joined_calls.proofs.lose_expired.Goals as goal

pub returns : goal.returns
returns c = c.lose.ensures
