-- The sample is admitted.
use Rattle.admission.proofs.admitted_answer.Goals as goal

pub returns : goal.returns
returns c = rw (c.handed_samples.ensures, c.info_of.ensures)
