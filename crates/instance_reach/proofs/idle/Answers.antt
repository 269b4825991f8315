-- The answer where there is no instance, and the rest as it was.
use Rattle.instance_reach.proofs.idle.Goals as goal

pub returns : goal.returns
returns c = λ s. rw (c.left.ensures, c.unanswered.ensures s)
