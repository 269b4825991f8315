-- The sample is not admitted.
use Rattle.admission.proofs.stopped.Goals as goal

pub returns : goal.returns
returns c = record { refusal = (λ e. rw (c.silent.ensures, e)); stop = (λ e. rw (c.silent.ensures, e)) }
